-- A reader that takes the front w of a text t and leaves r, and does the same where another text follows w that looks alike: one that has
-- the same first byte. Assumes nothing.
use mathlib.Core.Path.{◌≡◌, refl, sym, ap, ◌∙◌, subst}
use mathlib.Core.List.{List, [], ◌∷◌, ◌++◌, append_assoc}
use Prim.Native.Nat.{ℕ}
use Rattle.grammar.specs.Reading.{look}

-- P says what w is, G x u that reading the text x leaves u
pub record Took (t r : List ℕ) (P : List ℕ → Type 0) (G : List ℕ → List ℕ → Type 0) : Type 0 where
  pub w : List ℕ
  pub split : t ≡ w ++ r
  pub means : P w
  pub alike : (u : List ℕ) → look r ≡ look u → G (w ++ u) u

pub front : (w r u : List ℕ) → look r ≡ look u → look (w ++ r) ≡ look (w ++ u)
front [] r u e = e
front (c ∷ w) r u e = refl

-- nothing is taken
pub idle : {P : List ℕ → Type 0} {G : List ℕ → List ℕ → Type 0} (r : List ℕ) → P [] → ((u : List ℕ) → look r ≡ look u → G u u)
    → Took r r P G
idle r p g = record { w = []; split = refl; means = p; alike = g }

-- a byte before what is taken, and one behind it
pub push : {P Q : List ℕ → Type 0} {G H : List ℕ → List ℕ → Type 0} (c : ℕ) (t r : List ℕ) → Took t r P G
    → ((w : List ℕ) → t ≡ w ++ r → P w → Q (c ∷ w))
    → ((y u : List ℕ) → look t ≡ look y → look r ≡ look u → G y u → H (c ∷ y) u) → Took (c ∷ t) r Q H
push c t r a f g =
    record {
      w = c ∷ a.w;
      split = ap (λ x. c ∷ x) a.split;
      means = f a.w a.split a.means;
      alike = λ u k. g (a.w ++ u) u (ap look a.split ∙ front a.w r u k) k (a.alike u k);
    }

pub pull : {P Q : List ℕ → Type 0} {G H : List ℕ → List ℕ → Type 0} (c : ℕ) (t r : List ℕ) → Took t (c ∷ r) P G
    → ((w : List ℕ) → P w → Q (w ++ (c ∷ [])))
    → ((x u : List ℕ) → G x (c ∷ u) → H x u) → Took t r Q H
pull {H = H} c t r a f g =
    record {
      w = a.w ++ (c ∷ []);
      split = a.split ∙ sym (append_assoc a.w (c ∷ []) r);
      means = f a.w a.means;
      alike = λ u k. subst (λ x. H x u) (sym (append_assoc a.w (c ∷ []) u)) (g (a.w ++ (c ∷ u)) u (a.alike (c ∷ u) refl));
    }

-- the same, meant otherwise
pub turn : {P Q : List ℕ → Type 0} {G H : List ℕ → List ℕ → Type 0} (t r : List ℕ) → Took t r P G → ((w : List ℕ) → t ≡ w ++ r → P w → Q w)
    → ((w u : List ℕ) → t ≡ w ++ r → look r ≡ look u → G (w ++ u) u → H (w ++ u) u) → Took t r Q H
turn t r a f g =
    record {
      w = a.w;
      split = a.split;
      means = f a.w a.split a.means;
      alike = λ u k. g a.w u a.split k (a.alike u k);
    }

-- one reader after the other
pub after : {P Q R : List ℕ → Type 0} {G H I : List ℕ → List ℕ → Type 0} (t q r : List ℕ) → Took t q P G → Took q r Q H
    → ((w v : List ℕ) → q ≡ v ++ r → P w → Q v → R (w ++ v)) → ((x y u : List ℕ) → look q ≡ look y → look r ≡ look u → G x y → H y u
    → I x u) → Took t r R I
after {I = I} t q r a b f g =
    let s : List ℕ → List ℕ = λ u. b.w ++ u in
    record {
      w = a.w ++ b.w;
      split = a.split ∙ ap (λ x. a.w ++ x) b.split ∙ sym (append_assoc a.w b.w r);
      means = f a.w b.w b.split a.means b.means;
      alike =
          λ u k.
          let m : look q ≡ look (b.w ++ u) = ap look b.split ∙ front b.w r u k in
          subst (λ (x : List ℕ). I x u) (sym (append_assoc a.w b.w u))
          (g (a.w ++ (b.w ++ u)) (b.w ++ u) u m k (a.alike (b.w ++ u) m) (b.alike u k));
    }
