use Rattle.std.proofs.Common.{◌≡◌, map, take}
use Rattle.wf_machine.specs.declared.definition.FlowDef.{FlowDef}
use Rattle.wf_core.proofs.definitions.flow_documents.Given as goal

-- the documents so far
abbrev pub invariant-loop-def : goal.invariant-loop-def
invariant-loop-def l = l.docs ≡ map (λ (def : FlowDef). def.document) (take l.def-index l.defs)
