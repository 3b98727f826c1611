-- Each slot at the end is gone, or holds the input's statement as it was, or a transfer where a transfer stood.
use mathlib.Core.Path.{◌≡◌, refl, sym, ap, ◌∙◌}
use mathlib.Core.List.{List, [], ◌∷◌}
use mathlib.Core.Bool.{Bool, true, false, ◌&&◌, not, cond}
use Prim.Native.Nat.{ℕ, zero, suc}
use lib.ListN.{get_or, set}
use Rattle.laws.specs.Lists.{total, every}
use Rattle.laws.proofs.Tests.{clash, and_true, false_true}
use Rattle.rules.specs.declared.Settings.{Settings}
use Rattle.rules.specs.Forms.{is_transfer}
use Rattle.rules.specs.Programs.{Placeℕ, Operand, register, value, inner, Stmt, gone, instr, Program, at, on_last, retarget}
use Rattle.rules.specs.Judging.{names_of}
use Rattle.rules.specs.Rewriting.{is_change_jump, is_anchored, anchor, aimed, drop_all, instr_bytes, optimized}
use Rattle.rules.specs.Output.{plain_target, write_back}
use Rattle.rules.proofs.Laws.{by_instr, by_change, other}
use Rattle.promises.proofs.Steps.{Step, invert, bounce, shrink}
use Rattle.promises.proofs.Chains.{chain_keeps}
use Rattle.promises.proofs.Anchors.{at_anchor, anchor_in}
use Rattle.promises.proofs.Frames.{is_plain}
use Rattle.promises.proofs.Listings.{WellMade, made_instr}
use Rattle.promises.proofs.WritesBack.{at_write_back}
use Rattle.promises.proofs.Shows.{by_spoken, at_shown}
use Rattle.stems.specs.Own.{transfers, slots_at_end}

pub data Turned (s e : Stmt) : Type 0 where
  dropped : e ≡ gone → Turned s e
  same : e ≡ s → Turned s e
  turned : transfers s ≡ true → transfers e ≡ true → Turned s e

abbrev AllTurned : Program → Program → Type 0
AllTurned p q = (i : Placeℕ) → Turned (at p i) (at q i)

-- ---- a store
set_at : {X : Type 0} (P : ℕ → X → Type 0) (l : List X) (i : ℕ) (a d : X) → P i a → ((j : ℕ) → P j (get_or l j d)) → (j : ℕ) → P j (get_or (set l i a) j d)
set_at P [] i a d p h j = h j
set_at P (x ∷ l) zero a d p h zero = p
set_at P (x ∷ l) zero a d p h (suc j) = h (suc j)
set_at P (x ∷ l) (suc i) a d p h zero = h 0
set_at P (x ∷ l) (suc i) a d p h (suc j) = set_at (λ k. P (suc k)) l i a d p (λ k. h (suc k)) j

set_turned : (p q : Program) (i : Placeℕ) (x : Stmt) → Turned (at p i) x → AllTurned p q → AllTurned p (set q i x)
set_turned p q i x t h = set_at (λ k e. Turned (at p k) e) q i x gone t h

drop_turned : (p : Program) (js : List Placeℕ) (q : Program) → AllTurned p q → AllTurned p (drop_all js q)
unfolding drop_all
drop_turned p [] q h = h
drop_turned p (j ∷ js) q h = drop_turned p js (set q j gone) (set_turned p q j gone (dropped refl) h)

-- ---- a rewrite: a transfer is put where one stood, and what is dropped is gone

-- a transfer stands where a transfer stood
was : (s e : Stmt) (f : ℕ) (xs : List Operand) (c : Placeℕ) → e ≡ instr f xs c → is_transfer f ≡ true → Turned s e → transfers s ≡ true
was s e f xs c z t (dropped g) = clash (cc)
was s e f xs c z t (same g) = ap transfers (sym g ∙ z) ∙ t
was s e f xs c z t (turned a b) = a

step_turned : (p q r : Program) → Step q r → AllTurned p q → AllTurned p r
step_turned p q r (invert f) h =
    let x : Stmt = aimed f.to f.b f.jump in
    let t : Turned (at p f.i) x = turned (was _ _ f.from _ _ f.branch_at f.from_transfers (h f.i)) f.to_transfers in
    rw f.new (drop_turned p (f.j ∷ []) (set q f.i x) (set_turned p q f.i x t h))
step_turned p q r (bounce f) h =
    let x : Stmt = aimed f.f f.b f.last in
    let t : Turned (at p f.i) x = turned (was _ _ f.f _ _ f.branch_at f.transfers (h f.i)) f.transfers in
    rw f.new (drop_turned p (f.j ∷ f.m ∷ f.u ∷ []) (set q f.i x) (set_turned p q f.i x t h))
step_turned p q r (shrink s) h =
    let x : Stmt = instr s.f s.x.args s.x.carried in
    let t : Turned (at p s.i) x = turned (was _ _ s.x.form _ _ s.far_at s.far_transfers (h s.i)) s.transfers in
    rw s.new (set_turned p q s.i x t h)

-- ---- anchoring changes the targets of transfers alone

transfers_retarget : (f : Operand → Operand) (s : Stmt) → transfers (retarget f s) ≡ transfers s
transfers_retarget f s = by_change (λ s t. transfers t ≡ transfers s) (λ x. instr x.form (on_last f x.args) x.carried) (λ g xs c. refl) (λ s n. refl) s

anchored_transfers : (p : Program) (i : Placeℕ) (s : Stmt) → is_anchored (names_of p) p i s ≡ true → transfers s ≡ true
unfolding is_anchored
anchored_transfers p i =
    by_instr (λ s. is_anchored (names_of p) p i s ≡ true → transfers s ≡ true)
    (λ f xs c e. (and_true (is_transfer f) (not (is_change_jump (names_of p) p i)) e).0)
    (λ s n e. false_true (sym (other false (λ x. is_transfer x.form && not (is_change_jump (names_of p) p i)) s n) ∙ e))

anchor_turned : (p : Program) → AllTurned p (anchor p)
anchor_turned p i = rw (at_anchor p i) (on (is_anchored (names_of p) p i (at p i)) refl)
  where
    on : (b : Bool) → is_anchored (names_of p) p i (at p i) ≡ b → Turned (at p i) (cond b (retarget (anchor_in p i) (at p i)) (at p i))
    on true e =
        let t = anchored_transfers p i (at p i) e in
        turned t (transfers_retarget (anchor_in p i) (at p i) ∙ t)
    on false e = same refl

end_turned : (asked : Settings) (p : Program) → AllTurned p (optimized asked p).program
unfolding optimized
end_turned asked p = chain_keeps asked (AllTurned p) (step_turned p) (total instr_bytes p) (anchor p) (anchor_turned p)

-- ---- numbers are written back into transfers alone, and comments go

plain_same : (q : Program) (xs : List Operand) → every is_plain xs ≡ true → on_last (plain_target q) xs ≡ xs
unfolding every
plain_same q [] e = refl
plain_same q (register r ∷ []) e = refl
plain_same q (value d ∷ []) e = refl
plain_same q (inner i o ∷ []) e = false_true e
plain_same q (x ∷ y ∷ xs) e = ap (λ (l : List Operand). x ∷ l) (plain_same q (y ∷ xs) (and_true (is_plain x) (every is_plain (y ∷ xs)) e).1)

made_same : (p : Program) → WellMade p → (q : Program) (i : Placeℕ) → retarget (plain_target q) (at p i) ≡ at p i
made_same p w q i = on (at p i) refl
  where
    on : (s : Stmt) → at p i ≡ s → retarget (plain_target q) s ≡ s
    on =
        by_instr (λ s. at p i ≡ s → retarget (plain_target q) s ≡ s)
        (λ f xs c e. ap (λ (l : List Operand). instr f l c) (plain_same q xs (made_instr p w i f xs c e).1))
        (λ s n e. other s (λ x. instr x.form (on_last (plain_target q) x.args) x.carried) s n)

written_turned : (p : Program) → WellMade p → (q : Program) → AllTurned p q → AllTurned p (write_back q)
written_turned p w q h i = rw (at_write_back q i) (on (at q i) (h i))
  where
    on : (e : Stmt) → Turned (at p i) e → Turned (at p i) (retarget (plain_target q) e)
    on e (dropped z) = dropped (ap (retarget (plain_target q)) z)
    on e (same z) = same (ap (retarget (plain_target q)) z ∙ made_same p w q i)
    on e (turned a b) = turned a (transfers_retarget (plain_target q) e ∙ b)

-- slots-turned: of each slot that is handed out
pub slots_turned : (asked : Settings) (p : Program) → WellMade p → (i : Placeℕ) → Turned (at p i) (at (slots_at_end asked p) i)
slots_turned asked p w i =
    let e : Program = write_back (optimized asked p).program in
    rw (at_shown asked e i)
    (by_spoken (λ s t. Turned (at p i) s → Turned (at p i) t) asked (λ s h. h) (λ x h. dropped refl) (at e i)
    (written_turned p w (optimized asked p).program (end_turned asked p) i))
