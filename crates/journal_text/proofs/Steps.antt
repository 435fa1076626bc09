-- Steps of reading that gave something.
use Rattle.std.proofs.Common.{◌≡◌, Bool, true, false, cond, ◌&&◌, refl, Option, Some, None, ◌⊎◌, inl, inr}
use Rattle.journal_text.specs.inside.Reading.{◌>>=◌, or_else}

pub bind_some : {A B : Type 0} (read : Option A) (f : A → Option B) (y : B) → (read >>= f) ≡ Some y → (x : A) × (read ≡ Some x) × (f x ≡ Some y)
bind_some None f y is = absurd (cc)
bind_some (Some x) f y is = (x, refl, is)

pub or_some : {A B : Type 0} (read : Option A) (f : A → Option B) (other : Option B) (y : B) → or_else read f other ≡ Some y
    → ((x : A) × (read ≡ Some x) × (f x ≡ Some y)) ⊎ ((read ≡ None) × (other ≡ Some y))
or_some None f other y is = inr (refl, is)
or_some (Some x) f other y is = inl (x, refl, is)

pub guard_some : {A : Type 0} (test : Bool) (x y : A) → cond test (Some x) None ≡ Some y → (test ≡ true) × (x ≡ y)
guard_some true x y is = (refl, cc)
guard_some false x y is = absurd (cc)

pub first_of_both : (a b : Bool) → a && b ≡ true → a ≡ true
first_of_both true b both = refl
first_of_both false b both = both

pub second_of_both : (a b : Bool) → a && b ≡ true → b ≡ true
second_of_both true b both = both
second_of_both false b both = absurd (cc)

pub both_true : (a b : Bool) → a ≡ true → b ≡ true → a && b ≡ true
both_true a b one two = rw (one, two) refl
