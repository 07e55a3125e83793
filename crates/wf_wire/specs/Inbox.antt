-- An inbox, as contracts see it.
use Rattle.std.specs.Prelude.{ℕ, List, []}

-- the bytes that came and weren't given yet, and the offset of the first of them in the input
pub record InboxState : Type 0 where
  pub offset : ℕ
  pub held : List ℕ

-- these bytes at this offset
abbrev pub inbox_of : ℕ → List ℕ → InboxState
inbox_of o bytes = record { offset = o; held = bytes }

-- no byte came yet
abbrev pub empty_inbox : InboxState
empty_inbox = inbox_of 0 []
