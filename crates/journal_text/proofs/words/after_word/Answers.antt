use Rattle.std.proofs.Common.{◌∙◌, sym}
use Rattle.journal_text.proofs.WordLemmas.{word_there, no_word, short_of_word, same_bytes, other_bytes, rest_after}
use Rattle.journal_text.proofs.words.after_word.Goals.{then-bytes-word-via-then-bytes-word, then-bytes-word-via-else-bytes-word+then-ne}
use Rattle.journal_text.proofs.words.after_word.Goals as goal

pub returns-then-bytes-word : goal.returns-then-bytes-word
returns-then-bytes-word c = elim c.then-bytes-word.branch [
  | then-bytes-word-via-then-bytes-word w ↦ sym (short_of_word c.args.word.now c.args.bytes.now w.if-bytes-word.true)
  | then-bytes-word-via-else-bytes-word+then-ne w ↦
      sym (no_word c.args.word.now c.args.bytes.now w.if-bytes-word.false (other_bytes _ _ (sym w.ne.ensures ∙ w.if-ne.true)))
]

pub returns : goal.returns
returns c =
    sym (word_there c.args.word.now c.args.bytes.now c.if-bytes-word.false (same_bytes _ _ (sym c.ne.ensures ∙ c.if-ne.false))
    ∙ rest_after c.args.word.now c.args.bytes.now)
