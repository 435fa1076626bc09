-- What the calls of a step make.
use Rattle.std.proofs.Common.{◌≡◌, inl, inr, ℕ, ◌+◌, Bool, true, false, List, [], ◌∷◌, ◌++◌, length, Some, None, append-nil, append_assoc, refl, sym, ap, ◌∙◌, subst, arith}
use Rattle.task_graph.specs.NetRows.{NetRows}
use Rattle.task_graph.specs.Net.{is_weak}
use Rattle.atomic_table.specs.Seated.{TableId}
use Rattle.journal_rules.specs.declared.entry.Cause.{Cause}
use Rattle.journal_rules.specs.declared.entry.Cause.TheVariants.{Strong}
use Rattle.journal_rules.specs.declared.entry.DropWhy.{DropWhy}
use Rattle.join_tables.specs.States.{FreshState, CollectingState, TurnState, OwingState, RunningState, SpentState, fresh_state}
use Rattle.join_tables.specs.Findings.{TakesToken, GivesToken}
use Rattle.join_tables.specs.Turns.{CollectsFrom, GivesNext}
use Rattle.join_tables.specs.Fates.{FaultedAs, DroppedAs}
use Rattle.join_tables.specs.declared.turns.Collected.{Collected}
use Rattle.join_tables.specs.declared.turns.Collected.TheVariants.{LastAgain}
use Rattle.join_tables.specs.declared.turns.Gave.{Gave}
use Rattle.join_tables.specs.declared.turns.Gave.TheVariants.{Next, Released, Finished}
use Rattle.join_tables.specs.declared.fates.Fate.{Fate}
use Rattle.join_tables.specs.declared.fates.Fate.TheVariants.{Ended, Faulted, Dropped, AllDropped}
use Rattle.table_runs.specs.StepReleases.{AreMadeBy, GivesEdges, IsFateOf, MayRelease, Uses, given_by}
use Rattle.table_runs.specs.Attempts.{IsAgain, release_tried}
use Rattle.table_runs.specs.declared.attempt.Outcome.{Outcome}
use Rattle.table_runs.specs.declared.attempt.Outcome.TheVariants.{Ends, Faults, Drops}

-- a strong edge more, which makes none
made_by_more : (net : NetRows) (n : TableId) (e : ℕ) (edges : List ℕ) (made : List FreshState) → is_weak net e ≡ false → AreMadeBy net n edges made → AreMadeBy net n (e ∷ edges) made
made_by_more net n e edges [] strong by = (strong, by)
made_by_more net n e edges (fresh ∷ more) strong by = inr (strong, by)

-- an edge that makes none is strong
strong_edge : (weak : Bool) (before after : List ℕ) → GivesToken weak false before after → weak ≡ false
strong_edge true before after gives = absurd gives
strong_edge false before after gives = refl

-- COLLECTING
strong_again : (cause : Cause) (before after : List ℕ) → TakesToken cause true before after → cause ≡ Strong
strong_again cause before [] takes = absurd takes
strong_again cause before (m ∷ []) takes = absurd takes
strong_again cause before (m ∷ n ∷ rest) takes = takes.1.0

-- What is known of a turn and of a release that LastAgain answers.
pub record IsLastAgain (c : CollectingState) (turn : TurnState) (fresh : FreshState) : Type 0 where
  pub table : turn.table ≡ c.table
  pub task : turn.task ≡ c.task
  pub cause : turn.cause ≡ c.cause
  pub refused : turn.refused ≡ None
  pub held : turn.held ≡ []
  pub strong : c.cause ≡ Strong
  pub fresh_is : fresh ≡ fresh_state c.table c.task Strong

pub last_again : {V : Type 0} (c : CollectingState) (left : List ℕ) (turn : TurnState) (fresh : FreshState) (what : Collected V) → what ≡ LastAgain turn fresh → CollectsFrom c left what → IsLastAgain c turn fresh
last_again c [] turn fresh what is does = absurd (subst (CollectsFrom c []) is does)
last_again c (e ∷ []) turn fresh what is does =
    let d = subst (CollectsFrom c (e ∷ [])) is does in
    record {
      table = ap (λ (t : TurnState). t.table) d.0;
      task = ap (λ (t : TurnState). t.task) d.0;
      cause = ap (λ (t : TurnState). t.cause) d.0;
      refused = ap (λ (t : TurnState). t.refused) d.0;
      held = ap (λ (t : TurnState). t.held) d.0;
      strong = strong_again c.cause c.found turn.found d.2;
      fresh_is = d.1;
    }
last_again c (e ∷ f ∷ left) turn fresh what is does = absurd (subst (CollectsFrom c (e ∷ f ∷ left)) is does)

-- PAYING
-- an end has given some of its edges
pub record PaidSoFar (net : NetRows) (n : TableId) (all left : List ℕ) (before made : List FreshState) : Type 0 where
  pub given : List FreshState
  pub made_is : made ≡ before ++ given
  pub by : (more : List FreshState) → AreMadeBy net n left more → AreMadeBy net n all (given ++ more)

pub paid_none : (net : NetRows) (n : TableId) (all : List ℕ) (made : List FreshState) → PaidSoFar net n all all made made
paid_none net n all made = record { given = []; made_is = sym (append-nil made); by = λ more by. by }

pub paid_all : (net : NetRows) (n : TableId) (all left : List ℕ) (before made : List FreshState) → left ≡ [] → PaidSoFar net n all left before made → GivesEdges net n all before made
paid_all net n all left before made none paid = record { more = paid.given; after_is = paid.made_is; made = subst (AreMadeBy net n all) (append-nil paid.given) (paid.by [] (subst (λ l. AreMadeBy net n l []) (sym none) tt)) }

-- an end that is finished owes no edge
pub none_left : {V : Type 0} (net : NetRows) (o : OwingState V) (spent : SpentState V) (what : Gave V) → what ≡ Finished spent → GivesNext net o o.left what → o.left ≡ []
none_left {V} net o spent what is gives = by_left o.left (subst (GivesNext net o o.left) is gives)
  where
    by_left : (left : List ℕ) → GivesNext net o left (Finished spent) → left ≡ []
    by_left [] g = refl
    by_left (e ∷ left) g = absurd g

-- the end after an edge was given
pub record IsPaidOnce {V : Type 0} (o p : OwingState V) : Type 0 where
  pub table : p.table ≡ o.table
  pub units : p.units ≡ []
  pub ended : p.ended ≡ o.ended
  pub bare : p.bare ≡ o.bare
  pub left : length p.left + 1 ≡ length o.left

pub next_is : {V : Type 0} (net : NetRows) (o p : OwingState V) (what : Gave V) → what ≡ Next p → GivesNext net o o.left what → IsPaidOnce o p
next_is {V} net o p what is gives = by_left o.left refl (subst (GivesNext net o o.left) is gives)
  where
    by_left : (left : List ℕ) → left ≡ o.left → GivesNext net o left (Next p) → IsPaidOnce o p
    by_left [] same g = absurd g
    by_left (e ∷ left) same g = record {
      table = ap (λ (q : OwingState V). q.table) g.0;
      units = ap (λ (q : OwingState V). q.units) g.0;
      ended = ap (λ (q : OwingState V). q.ended) g.0;
      bare = ap (λ (q : OwingState V). q.bare) g.0;
      left = ap (λ (q : OwingState V). length q.left + 1) g.0 ∙ omega (arith) ∙ ap length same;
    }

pub released_is : {V : Type 0} (net : NetRows) (o p : OwingState V) (fresh : FreshState) (what : Gave V) → what ≡ Released p fresh → GivesNext net o o.left what → IsPaidOnce o p × (fresh.table ≡ o.table)
released_is {V} net o p fresh what is gives = by_left o.left refl (subst (GivesNext net o o.left) is gives)
  where
    by_left : (left : List ℕ) → left ≡ o.left → GivesNext net o left (Released p fresh) → IsPaidOnce o p × (fresh.table ≡ o.table)
    by_left [] same g = absurd g
    by_left (e ∷ left) same g = (
      record {
        table = ap (λ (q : OwingState V). q.table) g.0;
        units = ap (λ (q : OwingState V). q.units) g.0;
        ended = ap (λ (q : OwingState V). q.ended) g.0;
        bare = ap (λ (q : OwingState V). q.bare) g.0;
        left = ap (λ (q : OwingState V). length q.left + 1) g.0 ∙ omega (arith) ∙ ap length same;
      },
      ap (λ (f : FreshState). f.table) g.1,
    )

pub paid_next : {V : Type 0} (net : NetRows) (o p : OwingState V) (left : List ℕ) (all : List ℕ) (before made : List FreshState) (what : Gave V) → what ≡ Next p → GivesNext net o left what → PaidSoFar net o.table all left before made → PaidSoFar net o.table all p.left before made
paid_next {V} net o p [] all before made what is gives paid = absurd (subst (GivesNext net o []) is gives)
paid_next {V} net o p (e ∷ left) all before made what is gives paid =
    let g = subst (GivesNext net o (e ∷ left)) is gives in
    subst (λ l. PaidSoFar net o.table all l before made) (sym (ap (λ (q : OwingState V). q.left) g.0))
    (record { given = paid.given; made_is = paid.made_is; by = λ more by. paid.by more (made_by_more net o.table e left more (strong_edge (is_weak net e) o.found p.found g.1) by) })

pub paid_released : {V : Type 0} (net : NetRows) (o p : OwingState V) (fresh : FreshState) (left : List ℕ) (all : List ℕ) (before made made' : List FreshState) (what : Gave V) → what ≡ Released p fresh → GivesNext net o left what → made' ≡ made ++ fresh ∷ []
    → PaidSoFar net o.table all left before made → PaidSoFar net o.table all p.left before made'
paid_released {V} net o p fresh [] all before made made' what is gives push paid = absurd (subst (GivesNext net o []) is gives)
paid_released {V} net o p fresh (e ∷ left) all before made made' what is gives push paid =
    let g = subst (GivesNext net o (e ∷ left)) is gives in
    subst (λ l. PaidSoFar net o.table all l before made') (sym (ap (λ (q : OwingState V). q.left) g.0))
    (record {
      given = paid.given ++ fresh ∷ [];
      made_is = push ∙ ap (λ xs. xs ++ fresh ∷ []) paid.made_is ∙ append_assoc before paid.given (fresh ∷ []);
      by = λ more by. subst (AreMadeBy net o.table all) (sym (append_assoc paid.given (fresh ∷ []) more)) (paid.by (fresh ∷ more) (inl (g.1, by)));
    })

-- ONE MORE
pub gives_none : (net : NetRows) (n : TableId) (made : List FreshState) → GivesEdges net n [] made made
gives_none net n made = record { more = []; after_is = sym (append-nil made); made = tt }

pub none_again : (n : TableId) (t : ℕ) (cause : Cause) (made : List FreshState) → MayRelease n t cause made made
none_again n t cause made = record { again = []; after_is = sym (append-nil made); is = inl refl }

pub one_again : (n : TableId) (t : ℕ) (cause : Cause) (again : FreshState) (made made' : List FreshState) → IsAgain n t cause (Some again) → made' ≡ made ++ again ∷ [] → MayRelease n t cause made made'
one_again n t cause again made made' is push = record { again = again ∷ []; after_is = push; is = inr (is.0, ap (λ f. f ∷ []) is.1) }

-- FATES
pub dropped_of : {V : Type 0} (t : TurnState) (why : DropWhy) (fate : Fate V) → DroppedAs t why fate → IsFateOf t.task t.cause fate × (given_by fate ≡ [])
dropped_of t why (Ended e) is = absurd is
dropped_of t why (Faulted f) is = absurd is
dropped_of t why (Dropped d) is = ((is.0, is.1), refl)
dropped_of t why (AllDropped d) is = absurd is

pub faulted_of : {V : Type 0} (r : RunningState V) (why : _) (fate : Fate V) → FaultedAs r why fate → IsFateOf r.task r.cause fate × (given_by fate ≡ [])
faulted_of r why (Ended e) is = absurd is
faulted_of r why (Faulted f) is = ((is.0, is.1), refl)
faulted_of r why (Dropped d) is = absurd is
faulted_of r why (AllDropped d) is = absurd is

-- first what the end gave, then perhaps the same task again
pub concluded : {V : Type 0} (net : NetRows) (n : TableId) (outcome : Outcome V) (fate : Fate V) (before between after : List FreshState) → IsFateOf (release_tried n outcome).task (release_tried n outcome).cause fate → GivesEdges net n (given_by fate) before between
    → MayRelease n (release_tried n outcome).task (release_tried n outcome).cause between after → Uses net (release_tried n outcome) fate before after
concluded net n (Ends ending) fate before between after of gives again = record { of = of; makes = record { between = between; gives = gives; again = again } }
concluded net n (Faults running why) fate before between after of gives again = record { of = of; makes = record { between = between; gives = gives; again = again } }
concluded net n (Drops turn why) fate before between after of gives again = record { of = of; makes = record { between = between; gives = gives; again = again } }
