-- A delay that doubles at each retry is cut off after 31 of them.
use Rattle.std.proofs.Common.{◌≡◌, ℕ, zero, suc, ◌*◌, ◌^◌, ◌<◌, ◌≤◌, min, refl, arith, inl, inr}
use Rattle.std.proofs.lemmas.Bool.{cases_lt}
use Rattle.std.proofs.Math.Pow.{pow_mono}
use Rattle.std.proofs.lemmas.Nat.{mul-le}

grown : (first retry : ℕ) → 31 < retry → min (first * 2 ^ 31) 2147483647 ≡ min (first * 2 ^ retry) 2147483647
grown zero retry past = omega arith
grown (suc first) retry past =
    let far : 2 ^ 31 ≤ 2 ^ retry = pow_mono {i = 31} {j = retry} (omega arith) in
    let now : 1 * 2 ^ 31 ≤ suc first * 2 ^ 31 = mul-le 1 (2 ^ 31) (suc first) (2 ^ 31) (omega arith) (omega arith) in
    let later : 1 * 2 ^ 31 ≤ suc first * 2 ^ retry = mul-le 1 (2 ^ 31) (suc first) (2 ^ retry) (omega arith) far in
    omega (arith, now, later)

pub doubled : (first retry : ℕ) → min (first * 2 ^ min retry 31) 2147483647 ≡ min (first * 2 ^ retry) 2147483647
doubled first retry =
    elim (cases_lt 31 retry) [
      | inl past ↦ let cut : min retry 31 ≡ 31 = omega arith in rw cut (grown first retry past)
      | inr within ↦ let whole : min retry 31 ≡ retry = omega arith in rw whole refl
    ]
