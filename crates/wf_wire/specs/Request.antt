-- Messages, as contracts see them.
use Rattle.std.specs.Prelude.{ℕ, Bool, List}
use Rattle.wf_wire.specs.declared.fields.FieldLook.{FieldLook}
use Rattle.wf_wire.specs.declared.fields.FieldLook.TheVariants.{Absent, One, Many}
use Rattle.wf_wire.specs.Fields.{values, Found, absent, one, many, found_of}
use Rattle.wf_wire.specs.Closing.{closing}

-- the offset of the head's first byte in the input, the head's parts, and the body; the fields are names and values, with the blanks around values left out
pub record Request : Type 0 where
  pub offset : ℕ
  pub method : List ℕ
  pub target : List ℕ
  pub minor : ℕ
  pub fields : List (List ℕ × List ℕ)
  pub body : List ℕ

-- the values of the fields of this name, in any case, in their order
abbrev pub values_of : List ℕ → Request → List (List ℕ)
values_of name m = values name m.fields

-- what a look for the field of this name finds
abbrev pub field_of : List ℕ → Request → Found
field_of name m = found_of (values_of name m)

-- the answer to such a look, as data
abbrev pub found : FieldLook → Found
found Absent = absent
found (One v) = one v.now
found Many = many

-- the connection ends after this message
abbrev pub closes : Request → Bool
closes m = closing m.minor m.fields
