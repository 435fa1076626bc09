-- The rule of the count word, and what its steps tell.
use Rattle.std.specs.Prelude.{◌≡◌, ◌≢◌, ℕ, zero, suc, ◌+◌, ◌-◌, ◌/◌, ◌≤◌, ◌<◌, List, [], length, sum_by, slice_index}
use Rattle.atomic_table.specs.Seated.{TableId}
use Rattle.atomic_table.specs.Table.{Step, Me}
use Rattle.ready_deques.specs.declared.count.Counting.{Counting}

abbrev pub counting : ℕ → ℕ → ℕ → Counting
counting n z r = record { count = n; zeros = z; room = r }

abbrev pub total_count : List Counting → ℕ
total_count views = sum_by (λ v. v.count) views

abbrev pub total_room : List Counting → ℕ
total_room views = sum_by (λ v. v.room) views

-- the count word
abbrev pub count_word : List ℕ → ℕ
count_word words = slice_index words 8

-- an index of a word for spare counts
abbrev pub IsSpare : ℕ → Type 0
IsSpare i = (8 < i) × (i < 272)

abbrev pub total_words : List ℕ → ℕ
total_words words = sum_by (λ n. n) words

-- The count word is the number of counts that the seats hold and of those that are spare: all words but the count word
-- hold spare counts, so the sum of the words has the count word once more. The word can't wrap, as room bounds what may
-- be added to it
pub record HoldsCounts (words : List ℕ) (views : List Counting) : Type 0 where
  pub size : length words ≡ 272
  pub word : count_word words + count_word words ≡ total_words words + total_count views
  pub room : total_room views ≤ 4611686018427387904
  pub bound : count_word words + total_room views ≤ 9223372036854775808

-- an account, as contracts see it: the table of its word, and how many loads found 0
pub record AccountState : Type 0 where
  pub counts : TableId
  pub zeros : ℕ

abbrev pub account_state : TableId → ℕ → AccountState
account_state c n = record { counts = c; zeros = n }

abbrev pub with_counts : ℕ → Counting → Counting
with_counts n v = counting (v.count + n) v.zeros v.room

abbrev pub with_count : Counting → Counting
with_count v = with_counts 1 v

-- one more count, for one of the room
abbrev pub drawn : Counting → Counting
drawn v = counting (v.count + 1) v.zeros (v.room - 1)

abbrev pub EntersIt : Step (Unit {0}) → Me (Unit {0}) Counting → ℕ → Me (Unit {0}) Counting → Type 0
EntersIt s me n me' = me' ≡ (counting 0 0 0, [])

-- it became one more where it was what the caller had seen
abbrev pub RaisesIt : Step (Unit {0}) → Me (Unit {0}) Counting → ℕ → Me (Unit {0}) Counting → Type 0
RaisesIt s me n me' = (n ≡ s.first → me' ≡ (with_count me.0, me.1)) × (n ≢ s.first → me' ≡ me)

-- it became one more, for one of the seat's room
abbrev pub DrawsIt : Step (Unit {0}) → Me (Unit {0}) Counting → ℕ → Me (Unit {0}) Counting → Type 0
DrawsIt s me n me' = me' ≡ (drawn me.0, me.1)

abbrev pub LowersIt : Step (Unit {0}) → Me (Unit {0}) Counting → ℕ → Me (Unit {0}) Counting → Type 0
LowersIt s me n me' = me' ≡ (counting (me.0.count - s.first) me.0.zeros me.0.room, me.1)

-- one count of the seat is to spare
abbrev pub KeepsCount : Step (Unit {0}) → Me (Unit {0}) Counting → ℕ → Me (Unit {0}) Counting → Type 0
KeepsCount s me n me' = me' ≡ (counting (me.0.count - 1) me.0.zeros me.0.room, me.1)

-- the seat has all counts that were found
abbrev pub GathersIt : Step (Unit {0}) → Me (Unit {0}) Counting → ℕ → Me (Unit {0}) Counting → Type 0
GathersIt s me n me' = me' ≡ (with_counts n me.0, me.1)

-- a load that finds 0 is counted
abbrev pub seen : ℕ → Counting → Counting
seen zero v = counting v.count (v.zeros + 1) v.room
seen (suc n) v = v

-- an operation on another word than the count word counts nothing
abbrev pub SeesIt : Step (Unit {0}) → Me (Unit {0}) Counting → ℕ → Me (Unit {0}) Counting → Type 0
SeesIt s me n me' = (s.word ≡ 8 → me' ≡ (seen n me.0, me.1)) × (s.word ≢ 8 → me' ≡ me)

-- the counts go to a seat of their own
abbrev pub without_count : Counting → Counting
without_count v = counting 0 v.zeros v.room

abbrev pub count_alone : Counting → Counting
count_alone v = counting v.count 0 0

-- half of the room goes to another seat
abbrev pub half_kept : Counting → Counting
half_kept v = counting v.count v.zeros (v.room - v.room / 2)

abbrev pub half_given : Counting → Counting
half_given v = counting 0 0 (v.room / 2)
