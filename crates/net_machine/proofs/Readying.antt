-- Lists of the releases that are left, one more at the end.
use Rattle.std.proofs.Common.{◌≡◌, ℕ, zero, suc, ◌+◌, ◌<◌, List, [], ◌∷◌, ◌++◌, length, take, sym, ap, ◌∙◌, arith, get_or, append_assoc}
use Rattle.std.specs.List.{range_with_len}
use Rattle.std.proofs.lemmas.List.{append-nil, take_more}
use Rattle.task_graph.specs.NetRows.{NetRows}
use Rattle.task_graph.specs.Net.{weak_in}
use Rattle.journal_rules.specs.declared.entry.Cause.TheVariants.{Source, Strong, Weak}
use Rattle.journal_rules.specs.declared.entry.Entry.{Entry}
use Rattle.net_machine.specs.declared.ready.ReadyRelease.{ReadyRelease}
use Rattle.net_machine.specs.Ready.{ready_row, ready_weak, ready_of, ready_of_each}
use Rattle.journal_rules.specs.TimesLeft.{times_left}

weak_push : (net : NetRows) (h : List Entry) (t : ℕ) (es : List ℕ) (e : ℕ) → ready_weak net h t (es ++ e ∷ []) ≡ ready_weak net h t es ++ ready_row t (Weak e) (times_left net h t (Weak e))
weak_push net h t [] e = append-nil (ready_row t (Weak e) (times_left net h t (Weak e)))
weak_push net h t (f ∷ es) e =
    ap (λ xs. ready_row t (Weak f) (times_left net h t (Weak f)) ++ xs) (weak_push net h t es e)
    ∙ sym (append_assoc (ready_row t (Weak f) (times_left net h t (Weak f))) (ready_weak net h t es) (ready_row t (Weak e) (times_left net h t (Weak e))))

pub weak_more : (net : NetRows) (h : List Entry) (t i times : ℕ) (es : List ℕ) (first now new : List ReadyRelease) → i < length es → times ≡ times_left net h t (Weak (get_or es i 0)) → now ≡ first ++ ready_weak net h t (take i es)
    → new ≡ now ++ ready_row t (Weak (get_or es i 0)) times → new ≡ first ++ ready_weak net h t (take (i + 1) es)
weak_more net h t i times es first now new below times_are so_far is =
    is ∙ ap (λ n. now ++ ready_row t (Weak (get_or es i 0)) n) times_are ∙ ap (λ xs. xs ++ ready_row t (Weak (get_or es i 0)) (times_left net h t (Weak (get_or es i 0)))) so_far
    ∙ append_assoc first (ready_weak net h t (take i es)) (ready_row t (Weak (get_or es i 0)) (times_left net h t (Weak (get_or es i 0))))
    ∙ ap (λ xs. first ++ xs) (sym (ap (ready_weak net h t) (take_more es i 0 below) ∙ weak_push net h t (take i es) (get_or es i 0)))

each_push : (net : NetRows) (h : List Entry) (ts : List ℕ) (t : ℕ) → ready_of_each net h (ts ++ t ∷ []) ≡ ready_of_each net h ts ++ ready_of net h t
each_push net h [] t = append-nil (ready_of net h t)
each_push net h (r ∷ ts) t = ap (λ xs. ready_of net h r ++ xs) (each_push net h ts t) ∙ sym (append_assoc (ready_of net h r) (ready_of_each net h ts) (ready_of net h t))

range_push : (a n : ℕ) → range_with_len a (suc n) ≡ range_with_len a n ++ (a + n) ∷ []
range_push a zero = ap (λ k. k ∷ []) (let e : a ≡ a + 0 = omega arith in e)
range_push a (suc n) = ap (λ xs. a ∷ xs) (range_push (a + 1) n ∙ ap (λ k. range_with_len (a + 1) n ++ k ∷ []) (let e : a + 1 + n ≡ a + suc n = omega arith in e))

pub each_more : (net : NetRows) (h : List Entry) (t : ℕ) (now new : List ReadyRelease) → now ≡ ready_of_each net h (range_with_len 0 t) → new ≡ now ++ ready_of net h t → new ≡ ready_of_each net h (range_with_len 0 (t + 1))
each_more net h t now new so_far is =
    is ∙ ap (λ xs. xs ++ ready_of net h t) so_far ∙ sym (ap (λ n. ready_of_each net h (range_with_len 0 n)) (let e : t + 1 ≡ suc t = omega arith in e) ∙ ap (ready_of_each net h) (range_push 0 t)
    ∙ each_push net h (range_with_len 0 t) (0 + t) ∙ ap (λ k. ready_of_each net h (range_with_len 0 t) ++ ready_of net h k) (let e : 0 + t ≡ t = omega arith in e))

-- what is left of a task, in three parts
pub task_parts : (net : NetRows) (h : List Entry) (t source strong : ℕ) (first mid last : List ReadyRelease) → source ≡ times_left net h t Source → strong ≡ times_left net h t Strong → mid ≡ first ++ ready_row t Source source → last ≡ mid ++ ready_row t Strong strong
    → last ++ ready_weak net h t (weak_in net t) ≡ first ++ ready_of net h t
task_parts net h t source strong first mid last source_is strong_is mid_is last_is =
    ap (λ xs. xs ++ w) (last_is ∙ ap (λ xs. xs ++ ready_row t Strong strong) mid_is)
    ∙ append_assoc (first ++ ready_row t Source source) (ready_row t Strong strong) w
    ∙ append_assoc first (ready_row t Source source) (ready_row t Strong strong ++ w)
    ∙ ap (λ n. first ++ (ready_row t Source n ++ (ready_row t Strong strong ++ w))) source_is
    ∙ ap (λ n. first ++ (ready_row t Source (times_left net h t Source) ++ (ready_row t Strong n ++ w))) strong_is
  where
    w : List ReadyRelease
    w = ready_weak net h t (weak_in net t)
