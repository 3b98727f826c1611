-- `words::put_word` meets its contract. The measure is the slice's length, which falls with each byte.
use lib.ListN.{length}
use Rattle.wording.proofs.words.+put_word.Given as goal

abbrev pub decreases-put_word : goal.decreases-put_word
decreases-put_word l = length l.s.now
