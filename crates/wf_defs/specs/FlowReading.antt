-- The workflow definition that a document is which breaks no rule.
use Rattle.std.specs.Prelude.{ℕ, pos, true, if◌then◌else◌, List, codes, is_some}
use Rattle.std.specs.Option.{option_map_or}
use Rattle.wf_doc.specs.declared.doc.Doc.{Doc}
use Rattle.wf_doc.specs.declared.doc.Doc.TheVariants.{Int, Table}
use Rattle.wf_doc.specs.Doc.{as_table}
use Rattle.wf_doc.specs.Fields.{put}
use Rattle.wf_machine.specs.declared.definition.FlowDef.{FlowDef}
use Rattle.wf_machine.specs.declared.definition.Node.{Node}
use Rattle.wf_machine.specs.Text.{same_text}
use Rattle.wf_fields.specs.Fields.{given, text_in, number_or, truth_or, table_in}
use Rattle.wf_defs.specs.Nodes.{sites_inside, top_list}
use Rattle.wf_defs.specs.NodeReading.{kind_at, nodes_of}

-- the document with the version 1
abbrev pub with_version : Doc → Doc
with_version d = option_map_or (λ es. Table (put (codes "version") (Int (pos 1)) es)) (as_table d) d

-- the document as it is stored: as it was given, with a version
abbrev pub stored : Doc → Doc
stored d = if is_some (given (codes "version") d) then d else with_version d

abbrev pub all_nodes : ℕ → Doc → List Node
all_nodes most d = nodes_of (sites_inside most) (kind_at most) 0 (top_list d)

-- the definition that a document is, with these nodes
abbrev pub definition_with : List Node → Doc → FlowDef
definition_with nodes d =
    record {
      name = text_in (codes "name") d;
      version = number_or 1 (codes "version") d;
      timeout = number_or 0 (codes "timeoutSeconds") d;
      alert_only = same_text (text_in (codes "timeoutPolicy") d) (codes "ALERT_ONLY");
      restartable = truth_or true (codes "restartable") d;
      template = table_in (codes "inputTemplate") d;
      output = table_in (codes "outputParameters") d;
      nodes = nodes;
      document = stored d;
    }

-- the definition of at most so many nodes that a document is
abbrev pub flow_definition : ℕ → Doc → FlowDef
flow_definition most d = definition_with (all_nodes most d) d
