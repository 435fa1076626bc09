-- Why a start may fault.
use Rattle.std.specs.Prelude.{◌≡◌, ℕ, Option, Some}
use Rattle.journal_rules.specs.declared.entry.Why.{Why}
use Rattle.journal_rules.specs.declared.entry.Why.TheVariants.{OverRelease}

-- A start of which this claim was refused, if one was, may fault for this reason: for an over-release only of the
-- semaphore whose claim was refused.
abbrev pub MayTell : Why → Option ℕ → Type 0
MayTell (OverRelease s) refused = refused ≡ Some s
MayTell _ refused = Unit {0}
