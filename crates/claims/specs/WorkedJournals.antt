-- Journals that are worked out by hand.
use Rattle.std.specs.Prelude.{ℕ, true, false, List, [], ◌∷◌, ◌++◌}
use Rattle.journal_rules.specs.declared.entry.Cause.TheVariants.{Source, Strong, Weak}
use Rattle.journal_rules.specs.declared.entry.Part.TheVariants.{From, First, Nothing}
use Rattle.journal_rules.specs.declared.entry.Why.{Why}
use Rattle.journal_rules.specs.declared.entry.Why.TheVariants.{Long, OverRelease}
use Rattle.journal_rules.specs.declared.entry.DropWhy.TheVariants.{Halted, Limit, Stuck}
use Rattle.journal_rules.specs.declared.entry.Entry.{Entry}
use Rattle.journal_rules.specs.declared.entry.Entry.TheVariants.{Start, End, Fault, Drop}

-- task 0 of a net in which it is a source, started and ended, with these edges given
abbrev pub source_run : List ℕ → List Entry
source_run gives = Start 0 Source [] ∷ End 0 gives false ∷ []

-- on `row_net`, without the last entry
abbrev pub row_front : List Entry
row_front = source_run (0 ∷ []) ++ Start 1 Strong (From 1 ∷ []) ∷ []

-- on `row_net`
abbrev pub row_run : List Entry
row_run = row_front ++ End 2 [] false ∷ []

-- on `diamond_net`: tasks 2 and 1 are started, and task 2 ends
abbrev pub diamond_front : List Entry
diamond_front =
    source_run (0 ∷ 1 ∷ []) ++ Start 2 Strong (From 1 ∷ []) ∷ Start 1 Strong (From 1 ∷ []) ∷ End 2 (3 ∷ []) false ∷ []

-- on `diamond_net`
abbrev pub diamond_run : List Entry
diamond_run = diamond_front ++ End 3 (2 ∷ []) false ∷ Start 3 Strong (From 5 ∷ From 4 ∷ []) ∷ End 6 [] false ∷ []

-- on `double_net`
abbrev pub double_run : List Entry
double_run = source_run (0 ∷ 1 ∷ []) ++ Start 1 Strong (From 1 ∷ From 1 ∷ []) ∷ End 2 [] false ∷ []

-- on `loop_net`: up to the first start of the Choice
abbrev pub loop_front : List Entry
loop_front =
    source_run (0 ∷ []) ++ Start 1 Strong (From 1 ∷ []) ∷ End 2 (1 ∷ []) false ∷ Start 2 Strong (From 3 ∷ []) ∷ []

-- on `loop_net`: three rounds
abbrev pub loop_run : List Entry
loop_run =
    loop_front ++ End 4 (2 ∷ []) false
    ∷ Start 1 (Weak 2) (From 5 ∷ []) ∷ End 6 (1 ∷ []) false ∷ Start 2 Strong (From 7 ∷ []) ∷ End 8 (2 ∷ []) false
    ∷ Start 1 (Weak 2) (From 9 ∷ []) ∷ End 10 (1 ∷ []) false ∷ Start 2 Strong (From 11 ∷ []) ∷ End 12 (3 ∷ []) false
    ∷ Start 3 (Weak 3) (From 13 ∷ []) ∷ End 14 [] false ∷ []

-- on `kept_net`: three rounds before task 3 ends
abbrev pub kept_rounds : List Entry
kept_rounds =
    source_run (0 ∷ [])
    ++ Start 1 Strong (From 1 ∷ []) ∷ End 2 (1 ∷ 2 ∷ []) false ∷ Start 2 Strong (From 3 ∷ []) ∷ End 4 (3 ∷ []) false
    ∷ Start 1 (Weak 3) (From 5 ∷ []) ∷ End 6 (1 ∷ 2 ∷ []) false ∷ Start 2 Strong (From 7 ∷ []) ∷ End 8 (3 ∷ []) false
    ∷ Start 1 (Weak 3) (From 9 ∷ []) ∷ End 10 (1 ∷ 2 ∷ []) false ∷ Start 2 Strong (From 11 ∷ []) ∷ End 12 [] false
    ∷ Start 3 Source [] ∷ End 14 (4 ∷ []) false ∷ []

-- on `kept_net`, where task 4 finds any of the three Ends at edge 2, which isn't calm
abbrev pub kept_run : List Entry
kept_run = kept_rounds ++ Start 4 Strong (From 7 ∷ From 15 ∷ []) ∷ End 16 [] false ∷ []

-- on `kept_net`, where task 4 finds nothing at edge 2
abbrev pub kept_run_with_nothing : List Entry
kept_run_with_nothing = kept_rounds ++ Start 4 Strong (Nothing ∷ From 15 ∷ []) ∷ End 16 [] false ∷ []

-- on `choice_net`: the Choice gives no edge
abbrev pub choice_run : List Entry
choice_run = source_run (0 ∷ []) ++ Start 1 Strong (From 1 ∷ []) ∷ End 2 [] false ∷ []

-- on `choice_net`: the Choice gives its edge
abbrev pub chosen_front : List Entry
chosen_front = source_run (0 ∷ []) ++ Start 1 Strong (From 1 ∷ []) ∷ End 2 (1 ∷ []) false ∷ []

-- on `route_net`, up to the start of the Many
abbrev pub route_front : List Entry
route_front = source_run (0 ∷ []) ++ Start 1 Strong (From 1 ∷ []) ∷ []

-- on `route_net`: the Many gives three edges in an order of its own
abbrev pub route_run : List Entry
route_run =
    route_front ++ End 2 (3 ∷ 1 ∷ 2 ∷ []) false
    ∷ Start 2 (Weak 1) (From 3 ∷ []) ∷ End 4 [] false ∷ Start 3 (Weak 2) (From 3 ∷ []) ∷ Start 4 (Weak 3) (From 3 ∷ [])
    ∷ End 6 [] false ∷ End 7 [] false ∷ []

-- on `nested_net`
abbrev pub nested_run : List Entry
nested_run = source_run (0 ∷ []) ++ Start 1 Strong (From 1 ∷ []) ∷ End 2 [] true ∷ []

-- on `one_unit_net`, up to the first start of a task that takes the unit
abbrev pub one_unit_front : List Entry
one_unit_front = source_run (0 ∷ 1 ∷ 2 ∷ 3 ∷ []) ++ Start 2 Strong (From 1 ∷ []) ∷ []

-- on `one_unit_net`: one task after the other
abbrev pub one_unit_run : List Entry
one_unit_run =
    one_unit_front ++ End 2 [] false ∷ Start 1 Strong (From 1 ∷ []) ∷ End 4 [] false
    ∷ Start 4 Strong (From 1 ∷ []) ∷ End 6 [] false ∷ Start 3 Strong (From 1 ∷ []) ∷ End 8 [] false ∷ []

-- on `across_net`, up to the start of the task that puts the unit back
abbrev pub across_front : List Entry
across_front = source_run (0 ∷ []) ++ Start 1 Strong (From 1 ∷ []) ∷ []

-- on `across_net`
abbrev pub across_run : List Entry
across_run = across_front ++ End 2 [] false ∷ Start 2 Source [] ∷ End 4 [] false ∷ []

-- on `takers_net`
abbrev pub stuck_run : List Entry
stuck_run = source_run [] ++ Drop 1 Source (Stuck 0) ∷ []

-- on `putter_net`
abbrev pub over_run : List Entry
over_run = Start 0 Source [] ∷ Fault 0 (OverRelease 0) ∷ []

-- on `putter_and_taker_net`: before the taker ended, no unit stood for the putter
abbrev pub over_before_run : List Entry
over_before_run = Start 0 Source [] ∷ Start 1 Source [] ∷ End 1 [] false ∷ Fault 0 (OverRelease 0) ∷ []

-- on `putters_and_taker_net`: one unit for two putters, of which the other gives it back
abbrev pub over_beside_run : List Entry
over_beside_run =
    Start 2 Source [] ∷ End 0 [] false ∷ Start 0 Source [] ∷ Start 1 Source [] ∷ End 2 [] false
    ∷ Fault 3 (OverRelease 0) ∷ []

-- why a start faults in these journals
abbrev pub long : Why
long = Long 20000000

-- on `apart_net`
abbrev pub halted_run : List Entry
halted_run = Start 0 Source [] ∷ Fault 0 long ∷ Drop 1 Source Halted ∷ []

-- a round of the Choice of `self_net` by which it releases itself, after an End at this place, which gave that edge
abbrev pub self_round : ℕ → ℕ → List Entry
self_round place start = Start 1 (Weak 1) (From place ∷ []) ∷ End start (1 ∷ []) false ∷ []

-- on `self_net`: ten starts, and a release that is dropped
abbrev pub limited_run : List Entry
limited_run =
    source_run (0 ∷ []) ++ Start 1 Strong (From 1 ∷ []) ∷ End 2 (1 ∷ []) false ∷ self_round 3 4 ++ self_round 5 6
    ++ self_round 7 8 ++ self_round 9 10 ++ self_round 11 12 ++ self_round 13 14 ++ self_round 15 16
    ++ self_round 17 18 ++ Drop 1 (Weak 1) Limit ∷ []

-- on `two_rings_net`: a round of tasks 0 and 1
abbrev pub rings_round : List Entry
rings_round =
    Start 0 Strong (First ∷ []) ∷ End 0 (0 ∷ 2 ∷ []) false ∷ Start 1 Strong (First ∷ []) ∷ End 2 (1 ∷ 3 ∷ []) false ∷ []

-- on `two_rings_net`: two rounds, then a start of task 2
abbrev pub two_rings_front : List Entry
two_rings_front =
    rings_round ++ Start 0 Strong (From 1 ∷ []) ∷ End 4 (0 ∷ 2 ∷ []) false ∷ Start 1 Strong (From 3 ∷ [])
    ∷ End 6 (1 ∷ 3 ∷ []) false ∷ Start 2 Strong (From 1 ∷ From 3 ∷ []) ∷ End 8 [] false ∷ []

-- on `two_rings_net`: then another start of task 2, and a round that gives nothing
abbrev pub two_rings_run : List Entry
two_rings_run =
    two_rings_front
    ++ Start 2 Strong (From 5 ∷ From 7 ∷ []) ∷ End 10 [] false ∷ Start 0 Strong (From 5 ∷ []) ∷ End 12 [] false
    ∷ Start 1 Strong (From 7 ∷ []) ∷ End 14 [] false ∷ []

-- on `two_rings_net`: a round, and the releases past three starts are dropped
abbrev pub two_rings_limited_run : List Entry
two_rings_limited_run =
    rings_round ++ Start 2 Strong (From 1 ∷ From 3 ∷ []) ∷ End 4 [] false ∷ Drop 0 Strong Limit ∷ Drop 1 Strong Limit ∷ []

-- on `ring_net`: two rounds of task 0, of which the first release of task 1 is dropped
abbrev pub ring_rounds : List Entry
ring_rounds =
    Start 0 Strong (First ∷ []) ∷ End 0 (0 ∷ 1 ∷ []) false ∷ Drop 1 Strong Limit ∷ Start 0 Strong (From 1 ∷ [])
    ∷ End 3 (0 ∷ 1 ∷ []) false ∷ []
