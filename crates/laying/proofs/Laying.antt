-- Bytes laid behind those that stand in the room. Assumes nothing.
use mathlib.Core.Path.{◌≡◌, refl, sym, ap, ◌∙◌, subst}
use mathlib.Core.List.{List, [], ◌∷◌, ◌++◌}
use mathlib.Core.Bool.{Bool, true, false, cond}
use Prim.Native.Nat.{ℕ, ◌+◌, ◌-◌, ◌≤◌, ◌<◌}
use native.Mathlib.Numerals.{add-one}
use native.Mathlib.Omega.{arith}
use lib.Dec.{leb}
use lib.ListN.{length, take, drop, set, length-append, length-set, length-drop}
use lib.Seq.{take-suc-set, length-take-le}
use borrow.Author.Tests.{le-leb, lt-leb, leb-true, leb-false}
use borrow.Rule.Slice.PartMut.{put_mid, same_len_mid}
use Rattle.std.specs.Prelude.{Result, Err, Ok}
use Rattle.std.proofs.lemmas.Slice.{take-put_mid}
use Rattle.rules.specs.Expressions.{Expr, bytes_of}
use Rattle.grammar.specs.Going.{whole}
use Rattle.leaves.specs.Answering.{Put, Answered}
use Rattle.sums.proofs.Readings.{Reached}
use Rattle.laying.specs.Laying.{long, Stands, Added, Copied, Termed}

pub nothing_stands : (a : List ℕ) → length a ≡ 120 → Stands a 0 [] 0
nothing_stands a e =
    record { size = e; within = omega arith; front = λ h. refl; ends = λ h. refl; short = λ h. refl; over = λ h l. absurd (omega arith) }

-- no room for x
pub too_many : (b : List ℕ) (at : ℕ) (x : List ℕ) (longs : ℕ) → length b ≡ 120 → at ≤ 121 → (longs ≡ 0 → 120 < at + length x)
    → Added b b at 121 x longs
too_many b at x longs e h o =
    record {
      size = e;
      within = omega arith;
      adds = λ bs n w.
          record {
            size = e;
            within = omega arith;
            front = λ k. absurd (omega arith);
            ends = λ k. absurd (omega arith);
            short = λ k. absurd (omega arith);
            over = λ k l. passes bs n w (omega arith);
          };
    }
  where
    passes : (bs : List ℕ) (n : ℕ) → Stands b at bs n → n + longs ≡ 0 → 120 < length (bs ++ x)
    passes bs n w l = on (leb at 120) refl
      where
        on : (y : Bool) → leb at 120 ≡ y → 120 < length (bs ++ x)
        on true q = omega (arith, o (omega arith), w.ends (leb-true at 120 q), length-append bs x)
        on false q = omega (arith, w.over (omega (arith, leb-false at 120 q)) (omega arith), length-append bs x)

-- x stands behind what stood
pub laid_so : (b a : List ℕ) (at : ℕ) (x : List ℕ) → length a ≡ 120 → at + length x ≤ 120 → take (at + length x) a ≡ take at b ++ x
    → Added b a at (at + length x) x 0
laid_so b a at x e h t =
    record {
      size = e;
      within = omega arith;
      adds = λ bs n w.
          record {
            size = e;
            within = omega arith;
            front = λ k. t ∙ ap (λ y. y ++ x) (w.front (omega arith));
            ends = λ k. omega (arith, w.ends (omega arith), length-append bs x);
            short = λ k. omega (arith, w.short (omega arith));
            over = λ k l. absurd (omega arith);
          };
    }

pub put_so : (b : List ℕ) (at c : ℕ) → length b ≡ 120 → at ≤ 119 → Added b (set b at c) at (at + 1) (c ∷ []) 0
put_so b at c e h =
    laid_so b (set b at c) at (c ∷ []) (length-set b at c ∙ e) (omega arith) (ap (λ n. take n (set b at c)) (add-one at)
    ∙ take-suc-set b at c (omega arith))

-- ---- an expression's bytes

fits : (e : Expr) (room c : List ℕ) (n : ℕ) → Put c room 0 (bytes_of e) n → n ≤ 32
    → (long e ≡ 0) × ((length (bytes_of e) ≡ n) × (take n room ≡ bytes_of e))
fits e room c n p h =
    let l : n ≡ length (bytes_of e) = omega (arith, p.ends h) in
    (ap (λ y. cond y 0 1) (le-leb (length (bytes_of e)) 32 (omega arith)), (sym l, p.stands h))

pub term_long : (b : List ℕ) (at : ℕ) (room : List ℕ) (n : ℕ) → length b ≡ 120 → at ≤ 121 → 32 < n → Copied b b at 121 room n
term_long b at room n e h k =
    record {
      size = e;
      within = omega arith;
      adds = λ x c p. too_many b at (bytes_of x) (long x) e h (λ z. absurd (no x (omega (arith, p.over k)) z));
    }
  where
    no : (x : Expr) → 32 < length (bytes_of x) → long x ≡ 0 → ⊥
    no x l z = let q : long x ≡ 1 = ap (λ y. cond y 0 1) (lt-leb (length (bytes_of x)) 32 l) in omega arith

pub term_over : (b : List ℕ) (at : ℕ) (room : List ℕ) (n : ℕ) → length b ≡ 120 → at ≤ 121 → n ≤ 32 → 120 < at + n → Copied b b at 121 room n
term_over b at room n e h k o =
    record {
      size = e;
      within = omega arith;
      adds = λ x c p. too_many b at (bytes_of x) (long x) e h (λ z. omega (arith, (fits x room c n p k).1.0));
    }

-- the first i bytes of the room are laid
pub record Copying (b a : List ℕ) (at : ℕ) (room : List ℕ) (i : ℕ) : Type 0 where
  pub size : length a ≡ 120
  pub front : take (at + i) a ≡ take at b ++ take i room

pub copied_so : (b a : List ℕ) (at : ℕ) (room : List ℕ) (n : ℕ) → Copying b a at room n → n ≤ 32 → at + n ≤ 120
    → Copied b a at (at + n) room n
copied_so b a at room n w h k = record { size = w.size; within = omega arith; adds = adds }
  where
    adds : (e : Expr) (c : List ℕ) → Put c room 0 (bytes_of e) n → Added b a at (at + n) (bytes_of e) (long e)
    adds e c p =
        let f = fits e room c n p h in
        subst (λ l. Added b a at (at + n) (bytes_of e) l) (sym f.0)
        (subst (λ m. Added b a at (at + m) (bytes_of e) 0) f.1.0
        (laid_so b a at (bytes_of e) w.size (omega (arith, f.1.0))
        (ap (λ m. take (at + m) a) f.1.0 ∙ w.front ∙ ap (λ y. take at b ++ y) f.1.1)))

-- the bytes copied into their part of the room
pub copying_all : (b room y : List ℕ) (at n : ℕ) → length b ≡ 120 → y ≡ take n room → n ≤ length room → at + n ≤ 120
    → Copying b (put_mid at (at + n - at) b y) at room n
copying_all b room y at n e q h k =
    let z : at + n - at ≡ n = omega arith in
    let l : length y ≡ n = ap (λ (t : List ℕ). length t) q ∙ length-take-le n room h in
    let m : length (take (at + n - at) (drop at b)) ≡ n =
    length-take-le (at + n - at) (drop at b) (omega (arith, length-drop at b)) ∙ z in
    record {
      size = same_len_mid at (at + n - at) b y (l ∙ sym m) ∙ e;
      front = take-put_mid at (at + n - at) b y (at + n) (omega arith) (omega arith) ∙ ap (λ t. take at b ++ t) q;
    }

-- ---- from the part of a line to the line

pub term_ends : (s : List ℕ) (k : ℕ) (b a : List ℕ) (at : ℕ) (c room : List ℕ) (n end to : ℕ) → Reached (whole 5) k s c room 0 (Ok (n, end))
    → Copied b a at to room end → Termed s k b a at (Ok (n, to))
term_ends s k b a at c room n end to (e, (g, (h, p))) w = (e, (g, (h, w.adds e c p)))

pub term_stuck : (s : List ℕ) (k : ℕ) (b a : List ℕ) (at : ℕ) (c room : List ℕ) (n : ℕ) → Reached (whole 5) k s c room 0 (Err n)
    → (x : Result (ℕ × ℕ) ℕ) → x ≡ Err n → Termed s k b a at x
term_stuck s k b a at c room n g x q = subst (λ y. Termed s k b a at y) (sym q) g

pub room_size : (t b a : List ℕ) (r : Result (ℕ × ℕ) ℕ) (n to : ℕ) → r ≡ Ok (n, to) → Answered (whole 5) t b a 0 r → length a ≡ 32
room_size t b a r n to q x = (subst (λ z. Answered (whole 5) t b a 0 z) q x).1.1.1.size

pub ends_most : (t b a : List ℕ) (r : Result (ℕ × ℕ) ℕ) (n to : ℕ) → r ≡ Ok (n, to) → Answered (whole 5) t b a 0 r → n ≤ length t
ends_most t b a r n to q x = (subst (λ z. Answered (whole 5) t b a 0 z) q x).1.1.0

pub stuck_most : (t b a : List ℕ) (r : Result (ℕ × ℕ) ℕ) (n : ℕ) → r ≡ Err n → Answered (whole 5) t b a 0 r → n ≤ length t
stuck_most t b a r n q x = (subst (λ z. Answered (whole 5) t b a 0 z) q x).1
