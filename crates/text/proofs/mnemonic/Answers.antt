-- `text::mnemonic` meets its contract: the table's rule is a test at each of its entries.
use mathlib.Core.Path.{◌∙◌, ap}
use mathlib.Core.List.{List, [], ◌∷◌, map}
use Prim.Native.Nat.{ℕ}
use native.Mathlib.Omega.{arith}
use Rattle.laws.specs.Counts.{all_to}
use Rattle.laws.specs.Lists.{same}
use Rattle.rules.specs.Forms.{form_at}
use Rattle.text.specs.Text.{mnemonic}
use Rattle.rules.specs.Patterns.{codes}
use Rattle.text.specs.Words.{said}
use Rattle.text.proofs.Tables.{word_is}
use Rattle.text.proofs.mnemonic.Goals as goal

-- the table, as the code has it
rows : List (List ℕ)
rows = map (λ s. codes s) (
    "add     " ∷ "add     " ∷ "add     " ∷ "addc    " ∷ "addc    " ∷ "addc    " ∷ "sub     " ∷ "sub     " ∷ "sub     " ∷ "subc    " ∷
    "subc    " ∷ "subc    " ∷ "inc     " ∷ "inc     " ∷ "dec     " ∷ "dec     " ∷ "mul     " ∷ "div     " ∷ "and     " ∷ "and     " ∷
    "and     " ∷ "or      " ∷ "or      " ∷ "or      " ∷ "xor     " ∷ "xor     " ∷ "xor     " ∷ "rol     " ∷ "rolc    " ∷ "ror     " ∷
    "rorc    " ∷ "ld      " ∷ "ld      " ∷ "st      " ∷ "st      " ∷ "mov     " ∷ "mov     " ∷ "ldc     " ∷ "push    " ∷ "pop     " ∷
    "xch     " ∷ "xch     " ∷ "jmp     " ∷ "jmpf    " ∷ "br      " ∷ "brf     " ∷ "bz      " ∷ "bnz     " ∷ "bp      " ∷ "bpc     " ∷
    "bn      " ∷ "dbnz    " ∷ "dbnz    " ∷ "be      " ∷ "be      " ∷ "be      " ∷ "bne     " ∷ "bne     " ∷ "bne     " ∷ "call    " ∷
    "callf   " ∷ "callr   " ∷ "ret     " ∷ "reti    " ∷ "clr1    " ∷ "set1    " ∷ "not1    " ∷ "nop     " ∷ "ldf     " ∷ "stf     " ∷
    [])

pub returns : goal.returns
unfolding rows all_to said mnemonic form_at same
returns c =
    let w = word_is (λ f. mnemonic f) [] rows 70 tt c.from.result (omega (arith, c.requires, c.from.ensures)) in
    (w.0 ∙ ap mnemonic c.from.ensures, w.1)
