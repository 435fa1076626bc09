-- What is counted of releases after one entry more, and what the counts decide.
use Rattle.std.proofs.Common.{◌≡◌, ◌≢◌, ℕ, ◌+◌, ◌<◌, ◌≤◌, Bool, true, false, ◌&&◌, cond, eqb, min, List, [], ◌∷◌, ◌++◌, length, map, fold, sym, refl, ap, ◌∙◌, subst, arith, get_or, set}
use Rattle.std.specs.Prelude.{count_by, ◌==◌}
use Rattle.std.specs.List.{AllByRecursion}
use Rattle.std.proofs.lemmas.List.Elements.{recursion_from_All}
use Rattle.task_graph.specs.NetRows.{NetRows}
use Rattle.task_graph.specs.Net.{strong_in}
use Rattle.journal_rules.specs.declared.entry.Cause.{Cause}
use Rattle.journal_rules.specs.declared.entry.Cause.TheVariants.{Source, Strong, Weak}
use Rattle.journal_rules.specs.declared.entry.Part.{Part}
use Rattle.journal_rules.specs.declared.entry.Why.{Why}
use Rattle.journal_rules.specs.declared.entry.DropWhy.{DropWhy}
use Rattle.journal_rules.specs.declared.entry.Entry.{Entry}
use Rattle.journal_rules.specs.declared.entry.Entry.TheVariants.{Start, End, Fault, Drop}
use Rattle.journal_rules.specs.declared.rounds.Round.{Round}
use Rattle.journal_rules.specs.declared.rounds.Rounds.{Rounds}
use Rattle.journal_rules.specs.declared.releases.Releases.{Releases}
use Rattle.journal_rules.specs.Counts.{given, gives_edge, used, used_weak, used_source, uses, uses_any, is_strong, is_source, is_weak_at}
use Rattle.journal_rules.specs.ReleaseRule.{IsReleased}
use Rattle.journal_rules.specs.Complete.{least}
use Rattle.journal_rules.specs.inside.Tells.{Tells}
use Rattle.journal_rules.specs.inside.Rounds.{AreRounds}
use Rattle.journal_rules.specs.inside.Releases.{CountsReleases, IsUseOf, IsNoUse, NoneLeft, AreUsedUp, no_round}
use Rattle.journal_rules.proofs.Snoc.{count_by_push}
use Rattle.journal_rules.proofs.Tallying.{tells_same, tells_one_more, given_push, count_by_push_no, count_once, strong_in_tallied, and_false, and_true}
use Rattle.journal_rules.proofs.NetLemmas.{map_agree}
use Rattle.journal_rules.proofs.Rounding.{fold_min, least_is}

abbrev one_if : Bool → ℕ
one_if b = cond b 1 0

-- a Start and a Drop use the release that they name
pub start_use : (t : ℕ) (cause : Cause) (ins : List Part) → IsUseOf t cause (Start t cause ins)
start_use t cause ins = record { by_task = λ by r. refl; by_any = λ by. refl; edges = λ net e. refl; no_gift = λ e. refl }

pub drop_use : (t : ℕ) (cause : Cause) (why : DropWhy) → IsUseOf t cause (Drop t cause why)
drop_use t cause why = record { by_task = λ by r. refl; by_any = λ by. refl; edges = λ net e. refl; no_gift = λ e. refl }

-- an End and a Fault use none
pub end_no_use : (start : ℕ) (gives : List ℕ) (inner : Bool) → IsNoUse (End start gives inner)
end_no_use start gives inner = record { by_task = λ by r. refl; by_any = λ by. refl; edges = λ net e. refl }

pub fault_no_use : (start : ℕ) (why : Why) → IsNoUse (Fault start why)
fault_no_use start why = record { by_task = λ by r. refl; by_any = λ by. refl; edges = λ net e. refl }

-- the counts after a use, where the counts of uses have grown by it
used_counts : (net : NetRows) (h : List Entry) (x : Entry) (t : ℕ) (cause : Cause) (old new : Releases) → IsUseOf t cause x → CountsReleases net h old → new.rounds ≡ old.rounds
    → Tells (λ e. used_weak e h + one_if (is_weak_at e cause)) new.used_weak.items (length net.edges)
    → Tells (λ k. used k h + one_if (eqb t k && is_strong cause)) new.used.items (length net.tasks)
    → Tells (λ k. used_source k h + one_if (eqb t k && is_source cause)) new.used_source.items (length net.tasks)
    → CountsReleases net (h ++ x ∷ []) new
used_counts net h x t cause old new using counts rounds_are weak_are used_are sources_are = record {
  given = subst (λ (r : Rounds). Tells (λ e. given net e (h ++ x ∷ [])) r.given.items (length net.edges)) (sym rounds_are)
      (tells_same _ _ _ _ counts.given (λ e. given_push net e h x ∙ ap (λ b. given net e h + one_if b) (using.no_gift e) ∙ omega arith));
  rounds = subst (AreRounds net) (sym rounds_are) counts.rounds;
  weak = tells_same _ _ _ _ weak_are (λ e. count_by_push (uses_any (is_weak_at e)) h x ∙ ap (λ b. used_weak e h + one_if b) (using.by_any (is_weak_at e)));
  used = tells_same _ _ _ _ used_are (λ k. count_by_push (uses is_strong k) h x ∙ ap (λ b. used k h + one_if b) (using.by_task is_strong k));
  sources = tells_same _ _ _ _ sources_are (λ k. count_by_push (uses is_source k) h x ∙ ap (λ b. used_source k h + one_if b) (using.by_task is_source k));
}

-- a count that a use leaves as it is
stays : (f : ℕ → ℕ) (test : ℕ → Bool) (xs : List ℕ) (n : ℕ) → Tells f xs n → ((k : ℕ) → test k ≡ false) → Tells (λ k. f k + one_if (test k)) xs n
stays f test xs n tells none = tells_same f (λ k. f k + one_if (test k)) xs n tells (λ k. ap (λ b. f k + one_if b) (none k) ∙ omega arith)

-- and one that grows at one place
grows : (f : ℕ → ℕ) (test : ℕ → Bool) (xs : List ℕ) (n at : ℕ) → Tells f xs n → at < n → ((k : ℕ) → test k ≡ eqb at k) → Tells (λ k. f k + one_if (test k)) (set xs at (get_or xs at 0 + 1)) n
grows f test xs n at tells below is = tells_one_more f (λ k. f k + one_if (test k)) xs n at tells below (λ k. ap (λ b. f k + one_if b) (is k))

pub source_counts : (net : NetRows) (h : List Entry) (x : Entry) (t : ℕ) (old new : Releases) → IsUseOf t Source x → CountsReleases net h old → t < length net.tasks → new.rounds ≡ old.rounds → new.used_weak ≡ old.used_weak → new.used ≡ old.used
    → new.used_source.items ≡ set old.used_source.items t (get_or old.used_source.items t 0 + 1) → CountsReleases net (h ++ x ∷ []) new
source_counts net h x t old new using counts below rounds_are weak_are used_are source_is =
    used_counts net h x t Source old new using counts rounds_are
    (subst (λ xs. Tells (λ e. used_weak e h + 0) xs (length net.edges)) (sym (ap (λ v. v.items) weak_are)) (stays (λ e. used_weak e h) (λ e. false) _ _ counts.weak (λ k. refl)))
    (subst (λ xs. Tells (λ k. used k h + one_if (eqb t k && false)) xs (length net.tasks)) (sym (ap (λ v. v.items) used_are)) (stays (λ k. used k h) (λ k. eqb t k && false) _ _ counts.used (λ k. and_false (eqb t k))))
    (subst (λ xs. Tells (λ k. used_source k h + one_if (eqb t k && true)) xs (length net.tasks)) (sym source_is) (grows (λ k. used_source k h) (λ k. eqb t k && true) _ _ t counts.sources below (λ k. and_true (eqb t k))))

pub strong_counts : (net : NetRows) (h : List Entry) (x : Entry) (t : ℕ) (old new : Releases) → IsUseOf t Strong x → CountsReleases net h old → t < length net.tasks → new.rounds ≡ old.rounds → new.used_weak ≡ old.used_weak → new.used_source ≡ old.used_source
    → new.used.items ≡ set old.used.items t (get_or old.used.items t 0 + 1) → CountsReleases net (h ++ x ∷ []) new
strong_counts net h x t old new using counts below rounds_are weak_are source_are used_is =
    used_counts net h x t Strong old new using counts rounds_are
    (subst (λ xs. Tells (λ e. used_weak e h + 0) xs (length net.edges)) (sym (ap (λ v. v.items) weak_are)) (stays (λ e. used_weak e h) (λ e. false) _ _ counts.weak (λ k. refl)))
    (subst (λ xs. Tells (λ k. used k h + one_if (eqb t k && true)) xs (length net.tasks)) (sym used_is) (grows (λ k. used k h) (λ k. eqb t k && true) _ _ t counts.used below (λ k. and_true (eqb t k))))
    (subst (λ xs. Tells (λ k. used_source k h + one_if (eqb t k && false)) xs (length net.tasks)) (sym (ap (λ v. v.items) source_are)) (stays (λ k. used_source k h) (λ k. eqb t k && false) _ _ counts.sources (λ k. and_false (eqb t k))))

pub weak_counts : (net : NetRows) (h : List Entry) (x : Entry) (t e : ℕ) (old new : Releases) → IsUseOf t (Weak e) x → CountsReleases net h old → e < length net.edges → new.rounds ≡ old.rounds → new.used ≡ old.used → new.used_source ≡ old.used_source
    → new.used_weak.items ≡ set old.used_weak.items e (get_or old.used_weak.items e 0 + 1) → CountsReleases net (h ++ x ∷ []) new
weak_counts net h x t e old new using counts below rounds_are used_are source_are weak_is =
    used_counts net h x t (Weak e) old new using counts rounds_are
    (subst (λ xs. Tells (λ f. used_weak f h + one_if (eqb e f)) xs (length net.edges)) (sym weak_is) (grows (λ f. used_weak f h) (λ f. eqb e f) _ _ e counts.weak below (λ k. refl)))
    (subst (λ xs. Tells (λ k. used k h + one_if (eqb t k && false)) xs (length net.tasks)) (sym (ap (λ v. v.items) used_are)) (stays (λ k. used k h) (λ k. eqb t k && false) _ _ counts.used (λ k. and_false (eqb t k))))
    (subst (λ xs. Tells (λ k. used_source k h + one_if (eqb t k && false)) xs (length net.tasks)) (sym (ap (λ v. v.items) source_are)) (stays (λ k. used_source k h) (λ k. eqb t k && false) _ _ counts.sources (λ k. and_false (eqb t k))))

-- the counts after an entry that uses no release and gives no edge
pub unused_counts : (net : NetRows) (h : List Entry) (x : Entry) (counts : Releases) → IsNoUse x → ((e : ℕ) → gives_edge e x ≡ false) → CountsReleases net h counts → CountsReleases net (h ++ x ∷ []) counts
unused_counts net h x counts none no_gift c = record {
  given = tells_same _ _ _ _ c.given (λ e. given_push net e h x ∙ ap (λ b. given net e h + one_if b) (no_gift e) ∙ omega arith);
  rounds = c.rounds;
  weak = tells_same _ _ _ _ c.weak (λ e. count_by_push_no (uses_any (is_weak_at e)) h x (none.by_any (is_weak_at e)));
  used = tells_same _ _ _ _ c.used (λ k. count_by_push_no (uses is_strong k) h x (none.by_task is_strong k));
  sources = tells_same _ _ _ _ c.sources (λ k. count_by_push_no (uses is_source k) h x (none.by_task is_source k));
}

-- the counts after an End that gives each of its edges once
pub end_counts : (net : NetRows) (h : List Entry) (start : ℕ) (gives : List ℕ) (inner : Bool) (old new : Releases) → CountsReleases net h old → ((e : ℕ) → count_by (λ g. g == e) gives ≤ 1)
    → new.used_weak ≡ old.used_weak → new.used ≡ old.used → new.used_source ≡ old.used_source → AreRounds net new.rounds
    → ((k d : ℕ) → k < length old.rounds.given.items → get_or new.rounds.given.items k d ≡ get_or old.rounds.given.items k d + count_by (λ g. g == k) gives)
    → CountsReleases net (h ++ End start gives inner ∷ []) new
end_counts net h start gives inner old new c once weak_are used_are source_are rounds_are given_are =
    let x = End start gives inner in
    record {
      given = record {
        len = rounds_are.given_len;
        each = λ k d below. given_are k d (omega (arith, c.given.len)) ∙ ap (λ n. n + count_by (λ g. g == k) gives) (c.given.each k d below) ∙ ap (λ n. given net k h + n) (count_once (λ g. g == k) gives (once k)) ∙ sym (given_push net k h x);
      };
      rounds = rounds_are;
      weak = subst (λ xs. Tells (λ e. used_weak e (h ++ x ∷ [])) xs (length net.edges)) (sym (ap (λ v. v.items) weak_are)) (tells_same _ _ _ _ c.weak (λ e. count_by_push_no (uses_any (is_weak_at e)) h x refl));
      used = subst (λ xs. Tells (λ k. used k (h ++ x ∷ [])) xs (length net.tasks)) (sym (ap (λ v. v.items) used_are)) (tells_same _ _ _ _ c.used (λ k. count_by_push_no (uses is_strong k) h x refl));
      sources = subst (λ xs. Tells (λ k. used_source k (h ++ x ∷ [])) xs (length net.tasks)) (sym (ap (λ v. v.items) source_are)) (tells_same _ _ _ _ c.sources (λ k. count_by_push_no (uses is_source k) h x refl));
    }

-- the least number of a round is the least that its edges were given in the journal
pub round_least : (net : NetRows) (h : List Entry) (counts : Releases) (t : ℕ) (d : Round) → CountsReleases net h counts → t < length net.tasks
    → (get_or counts.rounds.by_task.items t d).least ≡ least (map (λ e. given net e h) (strong_in net t))
round_least net h counts t d c below =
    let within = strong_in_tallied net t (strong_in net t) counts.rounds.given.items refl c.given.len in
    sym (least_is counts.rounds.given.items (strong_in net t) (get_or counts.rounds.by_task.items t d) (c.rounds.each t d below))
    ∙ ap least (map_agree (λ e. get_or counts.rounds.given.items e 0) (λ e. given net e h) (strong_in net t)
    (recursion_from_All _ (strong_in net t) (λ k e k_below. c.given.each (get_or (strong_in net t) k e) 0 (omega (arith, within k e k_below, c.given.len)))))

-- a number below the least is below each
pub below_least : (f : ℕ → ℕ) (n : ℕ) (es : List ℕ) → n + 1 ≤ least (map f es) → (es ≢ []) × AllByRecursion (λ e. n + 1 ≤ f e) es
below_least f n [] less = absurd (omega arith)
below_least f n (e ∷ es) less =
    let m = fold_min f (f e) es in
    (λ none. absurd (cc), (omega (arith, m.0), weaker es m.1))
  where
    weaker : (gs : List ℕ) → AllByRecursion (λ g. fold min (f e) (map f es) ≤ f g) gs → AllByRecursion (λ g. n + 1 ≤ f g) gs
    weaker [] all = tt
    weaker (g ∷ gs) all = (omega (arith, all.0), weaker gs all.1)

-- and back
above_each : (f : ℕ → ℕ) (n m : ℕ) (es : List ℕ) → n ≤ m → AllByRecursion (λ e. n ≤ f e) es → n ≤ fold min m (map f es)
above_each f n m [] first all = first
above_each f n m (e ∷ es) first all = above_each f n (min m (f e)) es (omega (arith, all.0)) all.1

pub below_each : (f : ℕ → ℕ) (n : ℕ) (es : List ℕ) → (es ≢ []) × AllByRecursion (λ e. n + 1 ≤ f e) es → n + 1 ≤ least (map f es)
below_each f n [] all = absurd (all.0 refl)
below_each f n (e ∷ es) all = above_each f (n + 1) (f e) es all.1.0 all.1.1

-- a strong release is left where fewer were used than the least number given
pub released_strong : (net : NetRows) (h : List Entry) (counts : Releases) (t n : ℕ) (round : Round) → CountsReleases net h counts → t < length net.tasks → n ≡ get_or counts.used.items t n → round ≡ get_or counts.rounds.by_task.items t round
    → (n < round.least → IsReleased net h t Strong) × (IsReleased net h t Strong → n < round.least)
released_strong net h counts t n round c below used_is round_is =
    let used_h = used_is ∙ c.used.each t n below in
    let least_h = ap (λ (r : Round). r.least) round_is ∙ round_least net h counts t round c below in (
      λ less. below_least (λ e. given net e h) (used t h) (strong_in net t) (omega arith),
      λ rule. omega (arith, below_each (λ e. given net e h) (used t h) (strong_in net t) rule),
    )

-- no release is left, by the counts and by the journal
pub none_left : (net : NetRows) (h : List Entry) (counts : Releases) → CountsReleases net h counts → ((t : ℕ) → strong_in net t ≡ [] → used t h ≡ 0) → (AreUsedUp net counts → NoneLeft net h) × (NoneLeft net h → AreUsedUp net counts)
none_left net h counts c unused = (
  λ up. record {
    tasks = λ t below. (λ source. sym (c.sources.each t 0 below) ∙ up.sources t below source, λ some. sym (c.used.each t 0 below) ∙ up.rounds t below ∙ round_least net h counts t no_round c below);
    edges = λ e below weak. sym (c.weak.each e 0 below) ∙ up.edges e below weak ∙ c.given.each e 0 below;
  },
  λ none. record {
    sources = λ t below source. c.sources.each t 0 below ∙ (none.tasks t below).0 source;
    rounds = λ t below. by_edges t below (strong_in net t) refl (none.tasks t below).1;
    edges = λ e below weak. c.weak.each e 0 below ∙ none.edges e below weak ∙ sym (c.given.each e 0 below);
  },
)
  where
    by_edges : (t : ℕ) → t < length net.tasks → (es : List ℕ) → strong_in net t ≡ es → (strong_in net t ≢ [] → used t h ≡ least (map (λ e. given net e h) (strong_in net t)))
        → get_or counts.used.items t 0 ≡ (get_or counts.rounds.by_task.items t no_round).least
    by_edges t below [] is rule = c.used.each t 0 below ∙ unused t is ∙ sym ((c.rounds.each t no_round below).no_edge is)
    by_edges t below (e ∷ es) is rule = c.used.each t 0 below ∙ rule (λ empty. absurd (let x : e ∷ es ≡ [] = sym is ∙ empty in cc)) ∙ sym (round_least net h counts t no_round c below)
