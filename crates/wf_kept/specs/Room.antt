-- A list with room for more.
use Rattle.std.specs.Prelude.{ℕ, List, refl}
use Rattle.std.specs.Coded.{Coded, code_by, coded×, coded_ℕ, coded_list}

-- the items, and how many more have room
pub record Room (T : Type 0) : Type 0 where
  pub items : List T
  pub spare : ℕ

abbrev pub room_code : {T : Type 0} → Coded T → Coded (Room T)
room_code {T} c = code_by (List T × ℕ) (coded× (coded_list c) coded_ℕ) (λ r. (r.items, r.spare)) (λ p. record { items = p.0; spare = p.1 }) (λ _. refl)
