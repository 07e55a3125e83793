use Rattle.std.proofs.Common.{◌∙◌, sym, ap, length, subst}
use Rattle.std.specs.Prelude.{IsUtf8}
use Rattle.std.specs.Str.{IsAscii}
use Rattle.uuid.specs.Text.{hyphenated_text, lower}
use Rattle.uuid.proofs.TextLemmas.{by_index_length}
use Rattle.wf_names.specs.Ids.{id_text}
use Rattle.wf_names.proofs.IdLemmas.{IsAscii-id_text, IsUtf8-id_text}
use Rattle.wf_names.proofs.ids.id_text.Goals as goal

pub copy_from_slice-requires : goal.copy_from_slice-requires
copy_from_slice-requires c =
    sym (ap length (c.as_bytes.ensures.value ∙ c.encode_lower-text.ensures.text) ∙ by_index_length 36 _)

pub returns-clause-text : goal.returns-clause-text
unfolding id_text
returns-clause-text c =
    c.copy_from_slice.ensures.after ∙ c.as_bytes.ensures.value ∙ c.encode_lower-text.ensures.text
    ∙ ap (hyphenated_text lower) (c.hyphenated.ensures ∙ c.from_bytes-id.ensures ∙ c.octets_of.ensures)

pub returns-clause-ascii : goal.returns-clause-ascii
returns-clause-ascii c = subst IsAscii (sym (returns-clause-text c)) (IsAscii-id_text c.args.mark c.args.kind c.args.number)

pub returns-clause-utf8 : goal.returns-clause-utf8
returns-clause-utf8 c = subst IsUtf8 (sym (returns-clause-text c)) (IsUtf8-id_text c.args.mark c.args.kind c.args.number)
