-- The readers of expressions, as the code goes. Assumes nothing.
use mathlib.Core.Path.{◌≡◌, refl, sym, ap, ◌∙◌, subst}
use mathlib.Core.List.{List, [], ◌∷◌, ◌++◌}
use mathlib.Core.Bool.{Bool, true, false}
use mathlib.Core.Option.{Option, none, some}
use Prim.Native.Nat.{ℕ, suc, ◌+◌, ◌-◌, ◌≤◌, ◌<◌}
use native.Mathlib.Numerals.{add-one}
use native.Mathlib.Omega.{arith}
use lib.Dec.{leb, eqb}
use lib.ListN.{length, get_or, take, drop, length-drop}
use lib.Seq.{drop-drop}
use borrow.Author.Tests.{eq-eqb, ne_eqb, leb-true, leb-false}
use Rattle.std.specs.Prelude.{Result, Err, Ok}
use Rattle.rules.specs.declared.Op1.{Op1}
use Rattle.rules.specs.declared.Op2.{Op2}
use Rattle.text.specs.Text.{sign1}
use Rattle.rules.specs.Expressions.{Expr, two, one, bytes_of, code1, code2}
use Rattle.grammar.specs.Reading.{look}
use Rattle.grammar.specs.Going.{got, stuck, Start, leaf, paren, sign, nothing, start, skip, infix_of, op_at, is_some, gap, close, Mode, alone, whole, rest, Goes, opens, signs, ends, fails, firsts, sinks, stops, agains, breaks}
use Rattle.leaves.specs.Answering.{Put, Inserted, Answered, Continued, Passed, takes, after_of, code_of, sign_code}
use Rattle.grammar.proofs.Starts.{paren_starts, start_sign}
use Rattle.grammar.proofs.Spaces.{skip_clear, skip_look, skip_spaces, sign_clear}
use Rattle.grammar.proofs.Lexes.{look_at}
use Rattle.leaves.proofs.Puts.{put_two, put_none}
use Rattle.leaves.proofs.Leafs.{rest_is, code_some}

-- ---- bytes and spaces passed over

pub past_is : (k r : ℕ) (s : List ℕ) → k ≤ length s → r ≤ length (take (length s - k) (drop k s))
    → drop r (take (length s - k) (drop k s)) ≡ skip (take (length s - k) (drop k s))
    → (k + r ≤ length s) × (drop (k + r) s ≡ skip (drop k s))
past_is k r s h b e =
    let l : length (take (length s - k) (drop k s)) ≡ length s - k = ap length (rest_is k s) ∙ length-drop k s in
    let c : drop r (drop k s) ≡ skip (drop k s) = subst (λ x. drop r x ≡ skip x) (rest_is k s) e in
    (omega arith, sym (drop-drop r k s) ∙ c)

-- a sign and the spaces beside it: j before it, r with it
pub past_sign_is : (j r : ℕ) (s : List ℕ) → j ≤ length s → drop j s ≡ skip s → 1 ≤ r → r ≤ length (take (length s - j) (drop j s))
    → drop r (take (length s - j) (drop j s)) ≡ skip (drop 1 (take (length s - j) (drop j s)))
    → (1 ≤ j + r) × (j + r ≤ length s) × (drop (j + r) s ≡ skip (drop 1 (skip s)))
past_sign_is j r s h d o b e =
    let l : length (take (length s - j) (drop j s)) ≡ length s - j = ap length (rest_is j s) ∙ length-drop j s in
    let c : drop r (drop j s) ≡ skip (drop 1 (skip s)) = subst (λ x. drop r x ≡ skip (drop 1 x)) (rest_is j s) e
    ∙ ap (λ x. skip (drop 1 x)) d in
    (omega arith, omega arith, sym (drop-drop r j s) ∙ c)

-- where spaces were passed over, the first byte is one
pub spaced_look : (t : List ℕ) (r : ℕ) → 1 ≤ r → r ≤ length t → drop r t ≡ skip t → eqb (look t) 32 ≡ true
spaced_look t r h k e = on (eqb (look t) 32) refl
  where
    on : (b : Bool) → eqb (look t) 32 ≡ b → b ≡ true
    on true q = refl
    on false q = absurd (omega (arith, ap length (e ∙ skip_clear t q), length-drop r t))

code_none : (o : Option Op2) → code_of o < 1 → is_some o ≡ false
code_none none h = refl
code_none (some o) h = absurd (omega (arith, code_some o))

code_one : (o : Option Op2) → 1 ≤ code_of o → is_some o ≡ true
code_one none h = absurd (omega arith)
code_one (some o) h = refl

pub gap_stuck : (t q : List ℕ) (k : ℕ) → eqb (look t) 32 ≡ true → q ≡ skip t → k ≡ code_of (infix_of (look q)) → k < 1 → (e : Expr)
    → gap e t ≡ stuck q
gap_stuck t q k s p c h e =
    rw (s, ← p, code_none (infix_of (look q)) (omega arith))

pub gap_op : (t q : List ℕ) (k : ℕ) → eqb (look t) 32 ≡ true → q ≡ skip t → k ≡ code_of (infix_of (look q)) → 1 ≤ k → (e : Expr)
    → gap e t ≡ got e q
gap_op t q k s p c h e =
    rw (s, ← p, code_one (infix_of (look q)) (omega arith))

pub gap_near : (t q : List ℕ) → q ≡ t → q ≡ skip t → (e : Expr) → gap e t ≡ got e q
gap_near t q n p e =
    let s : eqb (look t) 32 ≡ false = ap (λ x. eqb (look x) 32) (sym n ∙ p) ∙ skip_look t in
    rw s (ap (λ x. got e x) (sym p))

pub close_yes : (s : List ℕ) (k : ℕ) → k < length s → get_or s k 0 ≡ 41 → (e : Expr) → close (got e (drop k s)) ≡ got e (drop (k + 1) s)
close_yes s k h q e = rw (eq-eqb (look (drop k s)) 41 (look_at s k h ∙ q)) (ap (λ x. got e x) (drop-drop 1 k s))

pub close_no : (s : List ℕ) (k : ℕ) → (look (drop k s) ≡ 41 → ⊥) → (e : Expr) → close (got e (drop k s)) ≡ stuck (drop k s)
close_no s k h e = rw (ne_eqb (look (drop k s)) 41 h)

-- ---- answers

-- of a part it is of the rest
pub of_rest : (m : Mode) (k : ℕ) (s b a : List ℕ) (at : ℕ) (r : Result (ℕ × ℕ) ℕ) → Answered m (take (length s - k) (drop k s)) b a at r
    → Answered m (drop k s) b a at r
of_rest m k s b a at r g = subst (λ x. Answered m x b a at r) (rest_is k s) g

-- what is read of the text s from k on, as of the whole text
abbrev pub Reached : Mode → (k : ℕ) (s b a : List ℕ) (at : ℕ) → Result (ℕ × ℕ) ℕ → Type 0
Reached m k s b a at (Ok (n, to)) = (e : Expr) × (Goes m (drop k s) (got e (drop n s)) × ((n ≤ length s) × Put b a at (bytes_of e) to))
Reached m k s b a at (Err n) = Goes m (drop k s) (stuck (drop n s)) × (n ≤ length s)

pub reached : (m : Mode) (k : ℕ) (s b a : List ℕ) (at : ℕ) (r x : Result (ℕ × ℕ) ℕ) → k ≤ length s
    → Answered m (take (length s - k) (drop k s)) b a at r → x ≡ after_of k r → Reached m k s b a at x
reached m k s b a at r x h g e = subst (λ y. Reached m k s b a at y) (sym e) (on r (of_rest m k s b a at r g))
  where
    on : (r : Result (ℕ × ℕ) ℕ) → Answered m (drop k s) b a at r → Reached m k s b a at (after_of k r)
    on (Ok (n, to)) (e, (g, (z, p))) =
        (e, (subst (λ y. Goes m (drop k s) (got e y)) (drop-drop n k s) g, (omega (arith, length-drop k s), p)))
    on (Err n) (g, z) = (subst (λ y. Goes m (drop k s) (stuck y)) (drop-drop n k s) g, omega (arith, length-drop k s))

-- what an answer bounds
pub took : (m : Mode) (t b a : List ℕ) (at : ℕ) (r : Result (ℕ × ℕ) ℕ) → Answered m t b a at r → takes r ≤ length t
took m t b a at (Ok (n, to)) g = g.1.1.0
took m t b a at (Err n) g = g.1

pub record Left (t a : List ℕ) (at n to : ℕ) : Type 0 where
  pub size : length a ≡ 32
  pub taken : n ≤ length t
  pub within : to ≤ 33
  pub above : to ≤ 32 → at ≤ to

pub left : (m : Mode) (t b a : List ℕ) (at n to : ℕ) → Answered m t b a at (Ok (n, to)) → Left t a at n to
left m t b a at n to g =
    let p = g.1.1.1 in
    record { size = p.size; taken = g.1.1.0; within = p.within; above = λ h. omega (arith, p.ends h) }

-- a text that begins with a sign, spaces before it or not
record Sign (s : List ℕ) (code : ℕ) : Type 0 where
  o : Op1
  behind : List ℕ
  starts : start s ≡ sign o behind
  is : skip s ≡ sign1 o ∷ behind
  codes : code ≡ code1 o

sign_is : (s : List ℕ) (code : ℕ) → code ≡ sign_code (start s) → 1 ≤ code → Sign s code
sign_is s code q h = on (start s) refl q
  where
    on : (x : Start) → start s ≡ x → code ≡ sign_code x → Sign s code
    on (leaf y) p e = absurd (omega arith)
    on paren p e = absurd (omega arith)
    on (sign o r) p e =
        let t = start_sign o r s p in
        record { o = o; behind = r; starts = p; is = ap skip t.is ∙ skip_spaces t.n (sign1 o ∷ r) (sign_clear o); codes = e }
    on (nothing r) p e = absurd (omega arith)

module _ (s b : List ℕ) (at : ℕ) where
  -- parentheses
  starts_paren : look s ≡ 40 → start s ≡ paren
  starts_paren q = on s q
    where
      on : (s : List ℕ) → look s ≡ 40 → start s ≡ paren
      on [] q = absurd (omega arith)
      on (c ∷ t) q = ap (λ x. start (x ∷ t)) q ∙ paren_starts t

  pub paren_ends : (a : List ℕ) (n to : ℕ) → look s ≡ 40 → Reached (whole 5) 1 s b a at (Ok (n, to)) → (x : Result (ℕ × ℕ) ℕ)
      → Passed s to (λ e. close (got e (drop n s))) x → Answered alone s b a at x
  paren_ends a n to q (e, (g, (h, p))) (Ok (k, y)) c = (
    e,
    (subst (λ z. Goes alone s z) (c.2 e) (opens (starts_paren q) g), (c.1, subst (λ z. Put b a at (bytes_of e) z) (sym c.0) p)),
  )
  paren_ends a n to q (e, (g, (h, p))) (Err k) c = (subst (λ z. Goes alone s z) (c.1 e) (opens (starts_paren q) g), c.0)

  pub paren_stuck : (a : List ℕ) (n : ℕ) → look s ≡ 40 → Reached (whole 5) 1 s b a at (Err n) → Answered alone s b a at (Err n)
  paren_stuck a n q (g, h) = (opens (starts_paren q) g, h)

  -- signs
  pub sign_ends : (a₁ a₂ : List ℕ) (k n end code to : ℕ) → length b ≡ 32 → at ≤ 33 → code ≡ sign_code (start s) → 1 ≤ code
      → drop k s ≡ skip (drop 1 (skip s)) → Reached alone k s b a₁ at (Ok (n, end)) → Inserted a₁ a₂ at end code to
      → Answered alone s b a₂ at (Ok (n, to))
  unfolding bytes_of
  sign_ends a₁ a₂ k n end code to lb h q c d (e, (g, (z, p))) i =
      let x = sign_is s code q c in
      let o = x.o in (
        one o e,
        (
          signs {o = got e (drop n s)} o x.starts (subst (λ y. Goes alone y (got e (drop n s))) (d ∙ ap (λ y. skip (drop 1 y)) x.is) g),
          (
            z,
            subst (λ y. Put b a₂ at (y ∷ bytes_of e) to) x.codes (put_two b b a₁ a₂ [] (bytes_of e) at at end code to lb
                (put_none b at lb h) p i),
          ),
        ),
      )

  pub sign_stuck : (a : List ℕ) (k n code : ℕ) → code ≡ sign_code (start s) → 1 ≤ code → drop k s ≡ skip (drop 1 (skip s))
      → Reached alone k s b a at (Err n) → Answered alone s b a at (Err n)
  sign_stuck a k n code q c d (g, z) =
      let x = sign_is s code q c in
      (signs {o = stuck (drop n s)} x.o x.starts (subst (λ y. Goes alone y (stuck (drop n s))) (d ∙ ap (λ y. skip (drop 1 y)) x.is) g), z)

  -- the spaces behind
  pub trail_ends : (a : List ℕ) (n to : ℕ) → Answered alone s b a at (Ok (n, to)) → (x : Result (ℕ × ℕ) ℕ) → Passed s to (λ e. gap e (drop n s)) x
      → Answered (whole 0) s b a at x
  trail_ends a n to (e, (g, (h, p))) (Ok (k, y)) c =
      (e, (subst (λ z. Goes (whole 0) s z) (c.2 e) (ends g), (c.1, subst (λ z. Put b a at (bytes_of e) z) (sym c.0) p)))
  trail_ends a n to (e, (g, (h, p))) (Err k) c = (subst (λ z. Goes (whole 0) s z) (c.1 e) (ends g), c.0)

  pub trail_stuck : (a : List ℕ) (n : ℕ) → Answered alone s b a at (Err n) → Answered (whole 0) s b a at (Err n)
  trail_stuck a n (g, h) = (fails g, h)

  -- chains
  pub chain_ends : (l : ℕ) (a₁ a₂ : List ℕ) (n to : ℕ) → length b ≡ 32 → Answered (whole l) s b a₁ at (Ok (n, to)) → (q : Result (ℕ × ℕ) ℕ)
      → Continued l (drop n s) a₁ a₂ at to q → Answered (whole (suc l)) s b a₂ at (after_of n q)
  chain_ends l a₁ a₂ n to lb (e, (g, (h, p))) q f = on q (f e b lb p)
    where
      on : (q : Result (ℕ × ℕ) ℕ) → Answered (rest l e) (drop n s) b a₂ at q → Answered (whole (suc l)) s b a₂ at (after_of n q)
      on (Ok (m, z)) (d, (k, (y, r))) =
          (d, (subst (λ x. Goes (whole (suc l)) s (got d x)) (drop-drop m n s) (firsts g k), (omega (arith, length-drop n s), r)))
      on (Err m) (k, y) = (subst (λ x. Goes (whole (suc l)) s (stuck x)) (drop-drop m n s) (firsts g k), omega (arith, length-drop n s))

  pub chain_stuck : (l : ℕ) (a : List ℕ) (n : ℕ) → Answered (whole l) s b a at (Err n) → Answered (whole (suc l)) s b a at (Err n)
  chain_stuck l a n (g, h) = (sinks g, h)

-- what follows in a chain
op_some : (o : Option Op2) (k : ℕ) → k ≡ code_of o → 1 ≤ k → (p : Op2) × ((o ≡ some p) × (k ≡ code2 p))
op_some none k e h = absurd (omega arith)
op_some (some p) k e h = (p, (refl, e))

op_no : (o : Option Op2) (k : ℕ) → k ≡ code_of o → k < 1 → o ≡ none
op_no none k e h = refl
op_no (some p) k e h = absurd (omega (arith, code_some p))

module _ (l : ℕ) (s : List ℕ) (at to code : ℕ) (c : code ≡ code_of (op_at (l + 1) (look s))) where
  at_suc : code ≡ code_of (op_at (suc l) (look s))
  at_suc = c ∙ ap (λ x. code_of (op_at x (look s))) (add-one l)

  pub more_none : (a : List ℕ) → code < 1 → Continued l s a a at to (Ok (0, to))
  more_none a h e b lb p = (e, (stops (op_no (op_at (suc l) (look s)) code at_suc h), (omega arith, p)))

  pub more_ends : (a₀ a₁ a₂ a₃ : List ℕ) (k n end top : ℕ) (q : Result (ℕ × ℕ) ℕ) → 1 ≤ code → drop k s ≡ skip (drop 1 s)
      → Reached (whole l) k s a₀ a₁ to (Ok (n, end)) → Inserted a₁ a₂ at end code top → Continued l (drop n s) a₂ a₃ at top q
      → Continued l s a₀ a₃ at to (after_of n q)
  unfolding bytes_of
  more_ends a₀ a₁ a₂ a₃ k n end top q h d (x, (g, (z, p))) i f e b lb p₀ =
      let w = op_some (op_at (suc l) (look s)) code at_suc h in
      let o = w.0 in
      let placed : Put b a₂ at (bytes_of (two o e x)) top =
      subst (λ y. Put b a₂ at (y ∷ (bytes_of e ++ bytes_of x)) top) w.1.1
      (put_two b a₀ a₁ a₂ (bytes_of e) (bytes_of x) at to end code top lb p₀ p i) in
      on o w.1.0 (subst (λ y. Goes (whole l) y (got x (drop n s))) d g) z q (f (two o e x) b lb placed)
    where
      on : (o : Op2) → op_at (suc l) (look s) ≡ some o → Goes (whole l) (skip (drop 1 s)) (got x (drop n s)) → n ≤ length s
          → (q : Result (ℕ × ℕ) ℕ)
          → Answered (rest l (two o e x)) (drop n s) b a₃ at q → Answered (rest l e) s b a₃ at (after_of n q)
      on o v g lj (Ok (m, y)) (e', (g', (z', p'))) =
          (e', (subst (λ y. Goes (rest l e) s (got e' y)) (drop-drop m n s) (agains o v g g'), (omega (arith, length-drop n s), p')))
      on o v g lj (Err m) (g', z') = (subst (λ y. Goes (rest l e) s (stuck y)) (drop-drop m n s) (agains o v g g'), omega (arith, length-drop n s))

  pub more_stuck : (a₀ a₁ : List ℕ) (k n : ℕ) → 1 ≤ code → drop k s ≡ skip (drop 1 s) → Reached (whole l) k s a₀ a₁ to (Err n)
      → Continued l s a₀ a₁ at to (Err n)
  more_stuck a₀ a₁ k n h d (g, z) e b lb p₀ =
      let w = op_some (op_at (suc l) (look s)) code at_suc h in
      (breaks w.0 w.1.0 (subst (λ y. Goes (whole l) y (stuck (drop n s))) d g), z)

-- an operator at the front is a byte
pub op_byte : (l : ℕ) (s : List ℕ) (code : ℕ) → code ≡ code_of (op_at l (look s)) → 1 ≤ code → 1 ≤ length s
unfolding infix_of
op_byte l [] code c h = absurd (omega arith)
op_byte l (b ∷ s) code c h = omega arith

pub sign_byte : (s : List ℕ) (code : ℕ) → code ≡ sign_code (start s) → 1 ≤ code → 1 ≤ length (skip s)
sign_byte s code c h = omega (arith, ap length (sign_is s code c h).is)

-- ---- for the calls

pub part_length : (k : ℕ) (s : List ℕ) → length (take (length s - k) (drop k s)) ≡ length s - k
part_length k s = ap length (rest_is k s) ∙ length-drop k s

pub continued : (l n : ℕ) (s a₀ a₁ : List ℕ) (at to : ℕ) (q : Result (ℕ × ℕ) ℕ) → Continued l (take (length s - n) (drop n s)) a₀ a₁ at to q
    → Continued l (drop n s) a₀ a₁ at to q
continued l n s a₀ a₁ at to q f = subst (λ x. Continued l x a₀ a₁ at to q) (rest_is n s) f

pub inserted : (b a₁ a₂ : List ℕ) (at end code to : ℕ) → Inserted a₁ a₂ at end code to → (end ≤ 31 → at ≤ end)
    → (to ≤ 33) × (to ≤ 32 → at ≤ to)
inserted b a₁ a₂ at end code to i h = on (leb end 31) refl
  where
    on : (t : Bool) → leb end 31 ≡ t → (to ≤ 33) × (to ≤ 32 → at ≤ to)
    on true e = let k = leb-true end 31 e in (omega (arith, i.ends k), λ z. omega (arith, i.ends k, h k))
    on false e = let k = leb-false end 31 e in (omega (arith, i.full k), λ z. absurd (omega (arith, i.full k)))

pub takes_is : (j : ℕ) (q : Result (ℕ × ℕ) ℕ) → takes (after_of j q) ≡ j + takes q
takes_is j (Ok (n, to)) = refl
takes_is j (Err n) = refl
