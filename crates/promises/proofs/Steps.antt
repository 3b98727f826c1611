-- What a rewrite says: a record of facts for each kind of rewrite, from which every later proof starts. No later proof looks into the patterns.
use mathlib.Core.Path.{◌≡◌, refl}
use mathlib.Core.List.{List, [], ◌∷◌}
use mathlib.Core.Option.{Option, some}
use mathlib.Core.Bool.{Bool, true, false, ◌&&◌, ◌||◌, not, cond}
use Prim.Native.Nat.{ℕ, suc, ◌<◌}
use lib.Dec.{eqb, ltb}
use lib.ListN.{length, set, get_or}
use borrow.Author.Tests.{eqb-true, ltb-true, not-true}
use Rattle.laws.specs.Options.{given, first_of}
use Rattle.laws.specs.Lists.{every, is_one_of}
use Rattle.laws.proofs.Tests.{and_true}
use Rattle.laws.proofs.Lists.{every_at}
use Rattle.laws.proofs.Options.{bind_some, given_some, or_else_either, first_of_some, first_from_some}
use Rattle.rules.specs.declared.Settings.{Settings}
use Rattle.rules.specs.Expressions.{name}
use Rattle.rules.specs.Forms.{size_at, form_at, is_transfer, is_unconditional, jmp, jmpf, br, call, callf, Pair, pairs, branches}
use Rattle.rules.specs.Programs.{Placeℕ, value, instr, label, Program, at, Instruction, as_instr, last_of}
use Rattle.rules.specs.Names.{is_local, context_at, Entry}
use Rattle.rules.specs.Judging.{names_of}
use Rattle.rules.specs.Rewriting.{is_change_jump, no_inner_label_between, no_interior_label_at, acceptable, candidate, next, branch, unconditional, local_label, names_bare, aimed, drop_all, inverted_at, references, trampoline_at, Pattern, inverted, trampoline, patterns, pattern_at, shorter, shrink_at, anywhere, step, patterns_for}
use Rattle.promises.proofs.General.{same_tests, same_tests_true}
use Rattle.promises.proofs.Sounds.{shapes}
use Rattle.promises.proofs.Looks.{as_instr_some, branch_some, unconditional_some, local_label_some, names_bare_true}

-- ---- the records

-- the other form of the pair that f is in; 0 where it is in none
abbrev pub other_of : List Pair → ℕ → ℕ
other_of [] f = 0
other_of (x ∷ xs) f = cond (eqb f x.first) x.second (cond (eqb f x.second) x.first (other_of xs f))

-- an inverted fold: the branch at i, the unconditional at j, the label at m
pub record Inverted (p q : Program) : Type 0 where
  pub from : ℕ
  pub to : ℕ
  pub i : Placeℕ
  pub j : Placeℕ
  pub m : Placeℕ
  pub b : Instruction
  pub jump : Instruction
  pub n : ℕ
  pub same_size : size_at to ≡ size_at from
  pub same_shapes : shapes to ≡ shapes from
  pub to_form : to < 70
  pub from_transfers : is_transfer from ≡ true
  pub to_transfers : is_transfer to ≡ true
  pub conditional : is_unconditional from ≡ false
  pub other : to ≡ other_of pairs from
  pub j_is : j ≡ next p (suc i)
  pub m_is : m ≡ next p (suc j)
  pub branch_at : at p i ≡ instr from b.args b.carried
  pub jump_at : at p j ≡ instr jump.form jump.args jump.carried
  pub isjump : is_unconditional jump.form ≡ true
  pub label_at : at p m ≡ label n
  pub local : is_local n ≡ true
  pub bare : last_of b.args ≡ value (name n)
  pub none_between : no_inner_label_between p i m ≡ true
  pub none_inside : no_interior_label_at p i ≡ true
  pub good : acceptable q ≡ true
  pub new : q ≡ drop_all (j ∷ []) (set p i (aimed to b jump))

-- a trampoline: the branch at i, the unconditional at j, T at m, the last unconditional at u, S at v
pub record Trampoline (p q : Program) : Type 0 where
  pub f : ℕ
  pub i : Placeℕ
  pub j : Placeℕ
  pub m : Placeℕ
  pub u : Placeℕ
  pub v : Placeℕ
  pub b : Instruction
  pub skip : Instruction
  pub last : Instruction
  pub t : ℕ
  pub s : ℕ
  pub kind : is_one_of branches f ≡ true
  pub transfers : is_transfer f ≡ true
  pub conditional : is_unconditional f ≡ false
  pub j_is : j ≡ next p (suc i)
  pub m_is : m ≡ next p (suc j)
  pub u_is : u ≡ next p (suc m)
  pub v_is : v ≡ next p (suc u)
  pub branch_at : at p i ≡ instr f b.args b.carried
  pub skip_at : at p j ≡ instr skip.form skip.args skip.carried
  pub skips : is_unconditional skip.form ≡ true
  pub t_at : at p m ≡ label t
  pub t_local : is_local t ≡ true
  pub last_at : at p u ≡ instr last.form last.args last.carried
  pub isjump : is_unconditional last.form ≡ true
  pub s_at : at p v ≡ label s
  pub s_local : is_local s ≡ true
  pub bare : last_of b.args ≡ value (name t)
  pub skip_bare : last_of skip.args ≡ value (name s)
  pub once : references (context_at p m) t p ≡ 1
  pub none_between : no_inner_label_between p i v ≡ true
  pub none_inside : no_interior_label_at p i ≡ true
  pub good : acceptable q ≡ true
  pub new : q ≡ drop_all (j ∷ m ∷ u ∷ []) (set p i (aimed f b last))

-- a shrink: the transfer x at i takes form f
pub record Shrunk (p q : Program) : Type 0 where
  pub f : ℕ
  pub i : Placeℕ
  pub x : Instruction
  pub far_at : at p i ≡ instr x.form x.args x.carried
  pub smaller : size_at f < size_at x.form
  pub same_shapes : shapes f ≡ shapes x.form
  pub new_form : f < 70
  pub far_transfers : is_transfer x.form ≡ true
  pub transfers : is_transfer f ≡ true
  pub jump_or_call : (is_unconditional x.form && is_unconditional f) || eqb x.form callf ≡ true
  pub as_call : not (eqb x.form callf) || eqb f call ≡ true
  pub no_change_jump : not (eqb x.form jmpf) || not (is_change_jump (names_of p) p i) ≡ true
  pub none_inside : no_interior_label_at p i ≡ true
  pub good : acceptable q ≡ true
  pub new : q ≡ set p i (instr f x.args x.carried)

pub data Step (p q : Program) : Type 0 where
  invert : Inverted p q → Step p q
  bounce : Trampoline p q → Step p q
  shrink : Shrunk p q → Step p q

-- every step leaves an acceptable program
pub step_good : (p q : Program) → Step p q → acceptable q ≡ true
step_good p q (invert f) = f.good
step_good p q (bounce f) = f.good
step_good p q (shrink f) = f.good

-- ---- the tables: what every pattern's forms have, and every shorter form

-- b may stand for a: both are transfers, and b is a form with registers where a has them
abbrev stands_for : ℕ → ℕ → Bool
stands_for a b = (is_transfer a && is_transfer b) && (same_tests (shapes b) (shapes a) && ltb b 70)

record Stands-for (a b : ℕ) : Type 0 where
  old : is_transfer a ≡ true
  new : is_transfer b ≡ true
  alike : shapes b ≡ shapes a
  known : b < 70

stands_for_true : (a b : ℕ) → stands_for a b ≡ true → Stands-for a b
stands_for_true a b e =
    let h = and_true (is_transfer a && is_transfer b) (same_tests (shapes b) (shapes a) && ltb b 70) e in
    let k = and_true (is_transfer a) (is_transfer b) h.0 in
    let l = and_true (same_tests (shapes b) (shapes a)) (ltb b 70) h.1 in
    record { old = k.0; new = k.1; alike = same_tests_true (shapes b) (shapes a) l.0; known = ltb-true b 70 l.1 }

abbrev fine : Pattern → Bool
fine (inverted a b) = eqb (size_at b) (size_at a) && (stands_for a b && (not (is_unconditional a) && eqb b (other_of pairs a)))
fine (trampoline f) = is_one_of branches f && (is_transfer f && not (is_unconditional f))

patterns_fine : (asked : Settings) → every fine (patterns_for asked) ≡ true
unfolding every is_transfer form_at
patterns_fine asked = on asked.folds
  where
    on : (b : Bool) → every fine (cond b patterns []) ≡ true
    on true = refl
    on false = refl

candidate_some : (q r : Program) → candidate q ≡ some r → (acceptable r ≡ true) × (r ≡ q)
unfolding candidate
candidate_some q r e = let h = given_some (acceptable q) (some q) r e in let z : r ≡ q = cc in (rw z h.0, z)

-- ---- each pattern where it counts
inverted_some : (a b : ℕ) → fine (inverted a b) ≡ true → (p : Program) (i : Placeℕ) (q : Program) → inverted_at a b p i ≡ some q → Inverted p q
unfolding inverted_at
inverted_some from to ok p i q e =
    let j : ℕ = next p (suc i) in
    let m : ℕ = next p (suc j) in
    let b = bind_some (branch from (at p i)) _ q e in
    let u = bind_some (unconditional (at p j)) _ q b.2 in
    let l = bind_some (local_label (at p m)) _ q u.2 in
    let bare : Bool = names_bare l.0 b.0 in
    let between : Bool = no_inner_label_between p i m in
    let inside : Bool = no_interior_label_at p i in
    let new : Program = drop_all (j ∷ []) (set p i (aimed to b.0 u.0)) in
    let g = given_some (bare && (between && inside)) (candidate new) q l.2 in
    let t = and_true bare (between && inside) g.0 in
    let s = and_true between inside t.1 in
    let c = candidate_some new q g.1 in
    let us = unconditional_some (at p j) u.0 u.1 in
    let ls = local_label_some (at p m) l.0 l.1 in
    let k = and_true (eqb (size_at to) (size_at from)) (stands_for from to && (not (is_unconditional from) && eqb to (other_of pairs from))) ok in
    let l₂ = and_true (stands_for from to) (not (is_unconditional from) && eqb to (other_of pairs from)) k.1 in
    let l₃ = and_true (not (is_unconditional from)) (eqb to (other_of pairs from)) l₂.1 in
    let kk = stands_for_true from to l₂.0 in
    record {
      from = from;
      to = to;
      i = i;
      j = j;
      m = m;
      b = b.0;
      jump = u.0;
      n = l.0;
      same_size = eqb-true _ _ k.0;
      same_shapes = kk.alike;
      to_form = kk.known;
      from_transfers = kk.old;
      to_transfers = kk.new;
      conditional = not-true (is_unconditional from) l₃.0;
      other = eqb-true to (other_of pairs from) l₃.1;
      j_is = refl;
      m_is = refl;
      branch_at = branch_some from (at p i) b.0 b.1;
      jump_at = us.1;
      isjump = us.0;
      label_at = ls.1;
      local = ls.0;
      bare = names_bare_true l.0 b.0 t.0;
      none_between = s.0;
      none_inside = s.1;
      good = c.0;
      new = c.1;
    }

trampoline_some : (f : ℕ) → fine (trampoline f) ≡ true → (p : Program) (i : Placeℕ) (q : Program) → trampoline_at f p i ≡ some q → Trampoline p q
unfolding trampoline_at
trampoline_some f ok p i q e =
    let j : ℕ = next p (suc i) in
    let m : ℕ = next p (suc j) in
    let u : ℕ = next p (suc m) in
    let v : ℕ = next p (suc u) in
    let b = bind_some (branch f (at p i)) _ q e in
    let y = bind_some (unconditional (at p j)) _ q b.2 in
    let t = bind_some (local_label (at p m)) _ q y.2 in
    let x = bind_some (unconditional (at p u)) _ q t.2 in
    let s = bind_some (local_label (at p v)) _ q x.2 in
    let bare : Bool = names_bare t.0 b.0 in
    let skips : Bool = names_bare s.0 y.0 in
    let once : Bool = eqb (references (context_at p m) t.0 p) 1 in
    let between : Bool = no_inner_label_between p i v in
    let inside : Bool = no_interior_label_at p i in
    let new : Program = drop_all (j ∷ m ∷ u ∷ []) (set p i (aimed f b.0 x.0)) in
    let g = given_some (bare && (skips && once)) (given (between && inside) (candidate new)) q s.2 in
    let h = given_some (between && inside) (candidate new) q g.1 in
    let t₁ = and_true bare (skips && once) g.0 in
    let t₂ = and_true skips once t₁.1 in
    let t₃ = and_true between inside h.0 in
    let c = candidate_some new q h.1 in
    let k₀ = and_true (is_one_of branches f) (is_transfer f && not (is_unconditional f)) ok in
    let k = and_true (is_transfer f) (not (is_unconditional f)) k₀.1 in
    let ys = unconditional_some (at p j) y.0 y.1 in
    let ts = local_label_some (at p m) t.0 t.1 in
    let xs = unconditional_some (at p u) x.0 x.1 in
    let ss = local_label_some (at p v) s.0 s.1 in
    record {
      f = f;
      i = i;
      j = j;
      m = m;
      u = u;
      v = v;
      b = b.0;
      skip = y.0;
      last = x.0;
      t = t.0;
      s = s.0;
      kind = k₀.0;
      transfers = k.0;
      conditional = not-true (is_unconditional f) k.1;
      j_is = refl;
      m_is = refl;
      u_is = refl;
      v_is = refl;
      branch_at = branch_some f (at p i) b.0 b.1;
      skip_at = ys.1;
      skips = ys.0;
      t_at = ts.1;
      t_local = ts.0;
      last_at = xs.1;
      isjump = xs.0;
      s_at = ss.1;
      s_local = ss.0;
      bare = names_bare_true t.0 b.0 t₁.0;
      skip_bare = names_bare_true s.0 y.0 t₂.0;
      once = eqb-true _ 1 t₂.1;
      none_between = t₃.0;
      none_inside = t₃.1;
      good = c.0;
      new = c.1;
    }

pattern_at_some : (x : Pattern) → fine x ≡ true → (p : Program) (i : Placeℕ) (q : Program) → pattern_at p x i ≡ some q → Step p q
pattern_at_some (inverted a b) ok p i q e = invert (inverted_some a b ok p i q e)
pattern_at_some (trampoline f) ok p i q e = bounce (trampoline_some f ok p i q e)

-- ---- shrinks

-- a form tried for f: smaller, and it may stand for f
abbrev tries : ℕ → ℕ → Bool
tries f g = ltb (size_at g) (size_at f) && (stands_for f g && ((is_unconditional f && is_unconditional g) || eqb f callf))

-- c says that it is a change jump
abbrev allows : Bool → ℕ → ℕ → Bool
allows c f g = (not (eqb f callf) || eqb g call) && (not (eqb f jmpf) || not c)

tried : (asked : Settings) (names : List Entry) (p : Program) (i : Placeℕ) (f : ℕ) → every (tries f) (shorter asked names p i f) ≡ true
unfolding shorter every is_transfer form_at
tried asked names p i f = on (eqb f jmpf) refl (is_change_jump names p i) (eqb f callf) refl asked.callf
  where
    on : (a : Bool) → eqb f jmpf ≡ a → (c : Bool) (b : Bool) → eqb f callf ≡ b → (w : Bool)
        → every (tries f) (cond a (cond c [] (br ∷ jmp ∷ [])) (cond b (cond w (call ∷ []) []) [])) ≡ true
    on true e true b d w = refl
    on true e false b d w = rw (eqb-true f jmpf e)
    on false e c true d true = rw (eqb-true f callf d)
    on false e c true d false = refl
    on false e c false d w = refl

allowed : (asked : Settings) (names : List Entry) (p : Program) (i : Placeℕ) (f : ℕ) → every (allows (is_change_jump names p i) f) (shorter asked names p i f) ≡ true
unfolding shorter every
allowed asked names p i f = on (eqb f jmpf) refl (is_change_jump names p i) (eqb f callf) refl asked.callf
  where
    on : (a : Bool) → eqb f jmpf ≡ a → (c : Bool) (b : Bool) → eqb f callf ≡ b → (w : Bool)
        → every (allows c f) (cond a (cond c [] (br ∷ jmp ∷ [])) (cond b (cond w (call ∷ []) []) [])) ≡ true
    on true e true b d w = refl
    on true e false b d w = rw (eqb-true f jmpf e)
    on false e c true d true = rw (eqb-true f callf d)
    on false e c true d false = refl
    on false e c false d w = refl

shrink_at_some : (asked : Settings) (p : Program) (i : Placeℕ) (q : Program) → shrink_at asked (names_of p) p i ≡ some q → Shrunk p q
unfolding shrink_at
shrink_at_some asked p i q e =
    let b = bind_some (as_instr (at p i)) _ q e in
    let x : Instruction = b.0 in
    let o = first_of_some _ (shorter asked (names_of p) p i x.form) 0 q b.2 in
    let f : ℕ = get_or (shorter asked (names_of p) p i x.form) o.place 0 in
    let new : Program = set p i (instr f x.args x.carried) in
    let g = given_some (no_interior_label_at p i) (candidate new) q o.holds in
    let c = candidate_some new q g.1 in
    let t = every_at (tries x.form) (shorter asked (names_of p) p i x.form) o.place 0 o.within (tried asked (names_of p) p i x.form) in
    let k = and_true (ltb (size_at f) (size_at x.form)) (stands_for x.form f && ((is_unconditional x.form && is_unconditional f) || eqb x.form callf)) t in
    let l = and_true (stands_for x.form f) ((is_unconditional x.form && is_unconditional f) || eqb x.form callf) k.1 in
    let kk = stands_for_true x.form f l.0 in
    let ch : Bool = is_change_jump (names_of p) p i in
    let t₂ = every_at (allows ch x.form) (shorter asked (names_of p) p i x.form) o.place 0 o.within (allowed asked (names_of p) p i x.form) in
    let l₂ = and_true (not (eqb x.form callf) || eqb f call) (not (eqb x.form jmpf) || not ch) t₂ in
    record {
      f = f;
      i = i;
      x = x;
      far_at = as_instr_some (at p i) x b.1;
      smaller = ltb-true _ _ k.0;
      same_shapes = kk.alike;
      new_form = kk.known;
      far_transfers = kk.old;
      transfers = kk.new;
      jump_or_call = l.1;
      as_call = l₂.0;
      no_change_jump = l₂.1;
      none_inside = g.0;
      good = c.0;
      new = c.1;
    }

-- ---- a step is one of them
anywhere_some : (f : ℕ → Option Program) (p q : Program) → anywhere f p ≡ some q → (i : ℕ) × (f i ≡ some q)
unfolding anywhere
anywhere_some f p q e = let r = first_from_some f (length p) 0 q e in (r.place, r.holds)

-- the first rewrite is an inverted fold, a trampoline or a shrink
pub step_some : (asked : Settings) (p q : Program) → step asked p ≡ some q → Step p q
unfolding step
step_some asked p q = or_else_either (first_of (λ x. anywhere (pattern_at p x) p) (patterns_for asked)) (anywhere (shrink_at asked (names_of p) p) p) q folds shrinks
  where
    folds : first_of (λ x. anywhere (pattern_at p x) p) (patterns_for asked) ≡ some q → Step p q
    folds e =
        let o = first_of_some (λ x. anywhere (pattern_at p x) p) (patterns_for asked) (trampoline 0) q e in
        let x : Pattern = get_or (patterns_for asked) o.place (trampoline 0) in
        let g = anywhere_some (pattern_at p x) p q o.holds in
        pattern_at_some x (every_at fine (patterns_for asked) o.place (trampoline 0) o.within (patterns_fine asked)) p g.0 q g.1

    shrinks : anywhere (shrink_at asked (names_of p) p) p ≡ some q → Step p q
    shrinks e = let g = anywhere_some (shrink_at asked (names_of p) p) p q e in shrink (shrink_at_some asked p g.0 q g.1)
