-- What a search finds.
use Rattle.std.proofs.Common.{◌≡◌, List, [], ◌∷◌, Bool, true, false, cond, Option, Some, None, find, refl, subst}

found_in : {X : Type 0} (p : X → Bool) (b : Bool) (x y : X) (rest : Option X) → p x ≡ b → (rest ≡ Some y → p y ≡ true) → cond b (Some x) rest ≡ Some y → p y ≡ true
found_in p true x y rest passes later found = cc
found_in p false x y rest fails later found = later found

-- what is found passes the test
pub found_passes : {X : Type 0} (p : X → Bool) (xs : List X) (y : X) → find p xs ≡ Some y → p y ≡ true
found_passes p [] y found = cc
found_passes p (x ∷ xs) y found = found_in p (p x) x y (find p xs) refl (found_passes p xs y) found

found_among : {X : Type 0} (P : X → Type 0) (a b : Bool) (x y z : X) → cond a (Some x) (cond b (Some y) None) ≡ Some z → P x → P y → P z
found_among P true b x y z found of_x of_y = let same : x ≡ z = cc in subst P same of_x
found_among P false true x y z found of_x of_y = let same : y ≡ z = cc in subst P same of_y
found_among P false false x y z found of_x of_y = cc

-- what is found of two has what both have
pub found_of_two : {X : Type 0} (P : X → Type 0) (p : X → Bool) (x y z : X) → find p (x ∷ y ∷ []) ≡ Some z → P x → P y → P z
found_of_two P p x y z found of_x of_y = found_among P (p x) (p y) x y z found of_x of_y

-- the first of two is found where it passes, and the second where it alone does
pub find-first : {X : Type 0} (p : X → Bool) (x y : X) → p x ≡ true → find p (x ∷ y ∷ []) ≡ Some x
find-first p x y passes = rw passes refl

pub find-second : {X : Type 0} (p : X → Bool) (x y : X) → p x ≡ false → p y ≡ true → find p (x ∷ y ∷ []) ≡ Some y
find-second p x y fails passes = rw (fails, passes) refl

pub find-neither : {X : Type 0} (p : X → Bool) (x y : X) → p x ≡ false → p y ≡ false → find p (x ∷ y ∷ []) ≡ None
find-neither p x y fails too = rw (fails, too) refl
