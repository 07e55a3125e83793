-- The standard limits.
use Rattle.std.specs.Prelude.{◌≡◌, ◌^◌}
use Rattle.wf_wire.specs.declared.limits.Limits.{Limits}

-- what a server that is told nothing else takes
pub record IsStandard (limits : Limits) : Type 0 where
  pub body : limits.body ≡ 1048576
  pub head : limits.head ≡ 16384
  pub fields : limits.fields ≡ 64
  pub depth : limits.depth ≡ 64
  pub nodes : limits.nodes ≡ 500
  pub attempts : limits.attempts ≡ 4096
  pub flows : limits.flows ≡ 20000
  pub batch : limits.batch ≡ 100
  pub document : limits.document ≡ 1048576
  pub nesting : limits.nesting ≡ 16
  pub input : limits.input ≡ 2 ^ 40
