-- `words::put_word` meets its contract. The measure is the slice's length, which falls with each byte.
use native.Mathlib.Omega.{arith}
use Rattle.std.proofs.lemmas.Grind.{common_steps}
use Rattle.terms.proofs.Writes.{no_word, word_ends, more_word}
use Rattle.wording.proofs.words.+put_word.Goals as goal
use Rattle.wording.proofs.words.+put_word.Goals.{then-is_empty-via-then-is_empty, then-is_empty-via-else-is_empty+then-s-eq32}

pub returns-then-is_empty : goal.returns-then-is_empty
returns-then-is_empty t c =
    elim c.then-is_empty.branch [
      | then-is_empty-via-then-is_empty w ↦ no_word c.args.out.now c.args.s.now c.args.at (grind (arith, common_steps)) c.requires.0 c.requires.1
      | then-is_empty-via-else-is_empty+then-s-eq32 w ↦
          word_ends c.args.out.now c.args.s.now c.args.at (grind (arith, common_steps)) w.if-s-eq32.true c.requires.0 c.requires.1
    ]

pub returns : goal.returns
returns t c =
    more_word c.args.s.now (grind (arith, common_steps)) c.if-s-eq32.false c.put-to.ensures c.put_word.ensures
