-- What was written on a stream by several writes, one after another.
use Rattle.std.proofs.Common.{◌≡◌, ℕ, ◌+◌, ◌-◌, Result, Ok, Err, List, [], ◌++◌, length, take, drop, Option, refl, sym, ap, ◌∙◌, subst, append_assoc, append-nil, take-append-drop}
use Rattle.std.proofs.lemmas.List.{take_rest}
use Rattle.std.specs.Io.KnownBytes.{Appends, Keeps}
use Rattle.std.proofs.KnownBytes.{Appends-nil, Appends-trans, Appends-kept}
use Rattle.outside_io.specs.declared.ports.sink.SinkFault.{SinkFault}
use Rattle.outside_io.specs.declared.ports.sink.SinkFault.TheVariants.{Failed, NoMemory}
use Rattle.outside_io.specs.StdSink.{OpenStream, WroteBut, PutsOn, WritesOn}

-- Before the first write all is left.
pub wrote_nothing : (before : Option (List ℕ)) (bytes : List ℕ) → WroteBut before before bytes bytes
wrote_nothing before bytes = record { front = []; parts = refl; wrote = Appends-nil before }

-- A write takes so many bytes of the rest.
pub wrote_more : (before between after : Option (List ℕ)) (bytes rest : List ℕ) (n : ℕ) → WroteBut before between bytes rest → Appends between after (take n rest) → WroteBut before after bytes (take (length rest - n) (drop n rest))
wrote_more before between after bytes rest n so_far more = record {
  front = so_far.front ++ take n rest;
  parts = so_far.parts ∙ ap (λ l. so_far.front ++ l) (sym (take-append-drop n rest)) ∙ sym (append_assoc so_far.front (take n rest) (drop n rest)) ∙ ap (λ l. (so_far.front ++ take n rest) ++ l) (sym (take_rest rest n));
  wrote = Appends-trans before between after so_far.front (take n rest) so_far.wrote more;
}

-- A write that fails takes none.
pub wrote_no_more : (before between after : Option (List ℕ)) (bytes rest : List ℕ) → WroteBut before between bytes rest → Keeps between after → WroteBut before after bytes rest
wrote_no_more before between after bytes rest so_far kept = record {
  front = so_far.front;
  parts = so_far.parts;
  wrote = Appends-kept before between after so_far.front so_far.wrote kept;
}

-- Where nothing is left all was written.
pub wrote_all : (before after : Option (List ℕ)) (bytes last : List ℕ) → last ≡ [] → WroteBut before after bytes last → Appends before after bytes
wrote_all before after bytes last none part = subst (Appends before after) (sym (part.parts ∙ ap (λ l. part.front ++ l) none ∙ append-nil part.front)) part.wrote

-- A piece that is written behind all that was held back.
pub puts_behind : {W : Type 0} (contents : W → Option (List ℕ)) (old between new : OpenStream W) (piece : List ℕ) (result : Result (Unit {0}) SinkFault)
    → WritesOn contents old between old.held (Ok tt) → WritesOn contents between new piece result → PutsOn contents old new piece result
puts_behind contents old between new piece (Ok done) (held, none, faults) (wrote, none_new, faults_new) = record {
  wrote = record {
    front = old.held ++ piece;
    parts = sym (append-nil (old.held ++ piece)) ∙ ap (λ last. (old.held ++ piece) ++ last) (sym none_new);
    wrote = Appends-trans (contents old.stream) (contents between.stream) (contents new.stream) old.held piece held wrote;
  };
  faults = faults_new ∙ faults;
}
puts_behind contents old between new piece (Err Failed) (held, none, faults) failed = record {
  wrote = record {
    lost = failed.wrote.lost;
    but = record {
      front = old.held ++ failed.wrote.but.front;
      parts = ap (λ l. old.held ++ l) failed.wrote.but.parts ∙ sym (append_assoc old.held failed.wrote.but.front failed.wrote.lost);
      wrote = Appends-trans (contents old.stream) (contents between.stream) (contents new.stream) old.held failed.wrote.but.front held failed.wrote.but.wrote;
    };
  };
  nothing_held = failed.nothing_held;
  faults = failed.faults ∙ ap (λ n. n + 1) faults;
}
puts_behind contents old between new piece (Err NoMemory) (held, none, faults) never = absurd never

-- Where the write of what was held back fails, the piece is lost with the rest of it.
pub puts_nothing : {W : Type 0} (contents : W → Option (List ℕ)) (old new : OpenStream W) (piece : List ℕ) (fault : SinkFault)
    → WritesOn contents old new old.held (Err fault) → PutsOn contents old new piece (Err fault)
puts_nothing contents old new piece Failed failed = record {
  wrote = record {
    lost = failed.wrote.lost ++ piece;
    but = record {
      front = failed.wrote.but.front;
      parts = ap (λ l. l ++ piece) failed.wrote.but.parts ∙ append_assoc failed.wrote.but.front failed.wrote.lost piece;
      wrote = failed.wrote.but.wrote;
    };
  };
  nothing_held = failed.nothing_held;
  faults = failed.faults;
}
puts_nothing contents old new piece NoMemory never = absurd never
