-- Reading a text in one mode comes to one thing only. Assumes nothing.
use mathlib.Core.Path.{◌≡◌, refl, sym, ap, ◌∙◌, subst}
use mathlib.Core.Logic.{◌⊎◌, inl, inr}
use mathlib.Core.List.{List}
use mathlib.Core.Option.{Option, none, some}
use Prim.Native.Nat.{ℕ, zero, suc}
use lib.ListN.{drop}
use Rattle.laws.proofs.Tests.{clash}
use Rattle.rules.specs.declared.Op2.{Op2}
use Rattle.rules.specs.Expressions.{Expr, two, one}
use Rattle.grammar.specs.Reading.{look}
use Rattle.grammar.specs.Going.{Read, got, stuck, on_got, Start, leaf, paren, sign, nothing, start, skip, op_at, gap, close, Mode, alone, whole, rest, Goes, leafs, opens, signs, nones, ends, fails, firsts, sinks, stops, agains, breaks}

-- ---- what led to an answer

abbrev ByStart : Start → List ℕ → Read Expr → Type 0
ByStart (leaf x) t o = o ≡ x
ByStart paren t o = (x : Read Expr) × (Goes (whole 5) (drop 1 t) x × (o ≡ close x))
ByStart (sign s r) t o = (x : Read Expr) × (Goes alone (skip r) x × (o ≡ on_got (one s) x))
ByStart (nothing r) t o = o ≡ stuck r

-- o is what `on` makes of an expression and the text behind it, where the mode m reads them; else o is stuck where m is
Then : Mode → List ℕ → (Expr → List ℕ → Type 0) → Read Expr → Type 0
Then m t on o =
    (((e : Expr) × ((r : List ℕ) × (Goes m t (got e r) × on e r)))) ⊎ ((r : List ℕ) × (Goes m t (stuck r) × (o ≡ stuck r)))

abbrev ByOp : Option Op2 → ℕ → Expr → List ℕ → Read Expr → Type 0
ByOp none l e r o = o ≡ got e r
ByOp (some p) l e r o = Then (whole l) (skip (drop 1 r)) (λ d q. Goes (rest l (two p e d)) q o) o

abbrev Inv : Mode → List ℕ → Read Expr → Type 0
Inv alone t o = ByStart (start t) t o
Inv (whole zero) t o = Then alone t (λ e r. o ≡ gap e r) o
Inv (whole (suc l)) t o = Then (whole l) t (λ e r. Goes (rest l e) r o) o
Inv (rest l e) r o = ByOp (op_at (suc l) (look r)) l e r o

inv : {m : Mode} {t : List ℕ} {o : Read Expr} → Goes m t o → Inv m t o
unfolding Then
inv (leafs {t = t} {o = o} q) = subst (λ x. ByStart x t o) (sym q) refl
inv (opens {t = t} {o = o} q g) = subst (λ x. ByStart x t (close o)) (sym q) (o, (g, refl))
inv (signs {t = t} {o = o} s q g) = subst (λ x. ByStart x t (on_got (one s) o)) (sym q) (o, (g, refl))
inv (nones {t = t} {r = r} q) = subst (λ x. ByStart x t (stuck r)) (sym q) refl
inv (ends {r = r} {e = e} g) = inl (e, (r, (g, refl)))
inv (fails {r = r} g) = inr (r, (g, refl))
inv (firsts {r = r} {e = e} g h) = inl (e, (r, (g, h)))
inv (sinks {r = r} g) = inr (r, (g, refl))
inv (stops {r = r} {e = e} {l = l} q) = subst (λ x. ByOp x l e r (got e r)) (sym q) refl
inv (agains {r = r} {q = q} {e = e} {d = d} {l = l} {o = o} p z g h) = subst (λ x. ByOp x l e r o) (sym z) (inl (d, (q, (g, h))))
inv (breaks {r = r} {q = q} {e = e} {l = l} p z g) = subst (λ x. ByOp x l e r (stuck q)) (sym z) (inr (q, (g, refl)))

-- ---- one answer

abbrev on_read : (Expr → List ℕ → Read Expr) → Read Expr → Read Expr
on_read f (got e r) = f e r
on_read f (stuck r) = stuck r

abbrev Going : ℕ → (Expr → Expr) → Read Expr → Read Expr → Type 0
Going l f o (got e r) = Goes (rest l (f e)) r o
Going l f o (stuck r) = Unit

pub determined : {m : Mode} {t : List ℕ} {o : Read Expr} → Goes m t o → (x : Read Expr) → Goes m t x → o ≡ x
unfolding Then
determined (leafs {t = t} {o = o} q) x g = sym (subst (λ y. ByStart y t x) q (inv g))
determined (opens {t = t} {o = o} q g) x h =
    let i = subst (λ y. ByStart y t x) q (inv h) in
    ap close (determined g i.0 i.1.0) ∙ sym i.1.1
determined (signs {t = t} {o = o} s q g) x h =
    let i = subst (λ y. ByStart y t x) q (inv h) in
    ap (on_got (one s)) (determined g i.0 i.1.0) ∙ sym i.1.1
determined (nones {t = t} q) x g = sym (subst (λ y. ByStart y t x) q (inv g))
determined (ends {t = t} {r = r} {e = e} g) x h = on (inv h) (λ y k. determined g y k)
  where
    on : Inv (whole zero) t x → ((y : Read Expr) → Goes alone t y → got e r ≡ y) → gap e r ≡ x
    on (inl (d, (q, (k, z)))) same = ap (on_read gap) (same (got d q) k) ∙ sym z
    on (inr (q, (k, z))) same = let b = same (stuck q) k in clash (cc)
determined (fails {t = t} {r = r} g) x h = on (inv h) (λ y k. determined g y k)
  where
    on : Inv (whole zero) t x → ((y : Read Expr) → Goes alone t y → stuck r ≡ y) → stuck r ≡ x
    on (inl (d, (q, (k, z)))) same = let b = same (got d q) k in clash (cc)
    on (inr (q, (k, z))) same = same (stuck q) k ∙ sym z
determined (firsts {t = t} {r = r} {e = e} {o = o} {l = l} g h) x k = on (inv k) (λ y z. determined g y z) (λ z. determined h x z)
  where
    on : Inv (whole (suc l)) t x → ((y : Read Expr) → Goes (whole l) t y → got e r ≡ y) → (Goes (rest l e) r x → o ≡ x) → o ≡ x
    on (inl (d, (q, (k, z)))) same more = more (subst (λ y. Going l (λ a. a) x y) (sym (same (got d q) k)) z)
    on (inr (q, (k, z))) same more = let b = same (stuck q) k in clash (cc)
determined (sinks {t = t} {r = r} {l = l} g) x h = on (inv h) (λ y k. determined g y k)
  where
    on : Inv (whole (suc l)) t x → ((y : Read Expr) → Goes (whole l) t y → stuck r ≡ y) → stuck r ≡ x
    on (inl (d, (q, (k, z)))) same = let b = same (got d q) k in clash (cc)
    on (inr (q, (k, z))) same = same (stuck q) k ∙ sym z
determined (stops {r = r} {e = e} {l = l} q) x g = sym (subst (λ y. ByOp y l e r x) q (inv g))
determined (agains {r = r} {q = q} {e = e} {d = d} {l = l} {o = o} p z g h) x k =
    on (subst (λ y. ByOp y l e r x) z (inv k)) (λ y w. determined g y w) (λ w. determined h x w)
  where
    on : ByOp (some p) l e r x → ((y : Read Expr) → Goes (whole l) (skip (drop 1 r)) y → got d q ≡ y)
        → (Goes (rest l (two p e d)) q x → o ≡ x) → o ≡ x
    on (inl (d, (q, (k, z)))) same more = more (subst (λ y. Going l (λ a. two p e a) x y) (sym (same (got d q) k)) z)
    on (inr (q, (k, z))) same more = let b = same (stuck q) k in clash (cc)
determined (breaks {r = r} {q = q} {e = e} {l = l} p z g) x k = on (subst (λ y. ByOp y l e r x) z (inv k)) (λ y w. determined g y w)
  where
    on : ByOp (some p) l e r x → ((y : Read Expr) → Goes (whole l) (skip (drop 1 r)) y → stuck q ≡ y) → stuck q ≡ x
    on (inl (d, (v, (k, z)))) same = let b = same (got d v) k in clash (cc)
    on (inr (v, (k, z))) same = same (stuck v) k ∙ sym z
