-- The standard limits.
use Rattle.std.proofs.Common.{refl, lit≤}
use Rattle.wf_wire.specs.declared.limits.Limits.{Limits}
use Rattle.wf_commands.specs.Standard.{IsStandard}

abbrev pub standard : Limits
standard = record {
  body = 1048576;
  head = 16384;
  fields = 64;
  depth = 64;
  nodes = 500;
  attempts = 4096;
  flows = 20000;
  batch = 100;
  document = 1048576;
  nesting = 16;
  input = 1099511627776;
  body_in_range = lit≤ tt;
  head_in_range = lit≤ tt;
  fields_in_range = lit≤ tt;
  depth_in_range = lit≤ tt;
  nodes_in_range = lit≤ tt;
  attempts_in_range = lit≤ tt;
  flows_in_range = lit≤ tt;
  batch_in_range = lit≤ tt;
  document_in_range = lit≤ tt;
  nesting_in_range = lit≤ tt;
  input_in_range = lit≤ tt;
}

pub is_standard : IsStandard standard
is_standard = record { body = refl; head = refl; fields = refl; depth = refl; nodes = refl; attempts = refl; flows = refl; batch = refl; document = refl; nesting = refl; input = refl }
