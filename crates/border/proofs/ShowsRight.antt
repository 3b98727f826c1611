-- C-24, for C: what a place shows is what is answered of that edition.
use mathlib.Core.Path.{◌≡◌, refl, sym, ◌∙◌, ap, subst}
use mathlib.Core.List.{List}
use mathlib.Core.Bool.{Bool, true, false, cond}
use Prim.Native.Nat.{ℕ}
use native.Mathlib.Omega.{arith}
use Rattle.std.specs.Prelude.{Ok, Some, None}
use Rattle.rules.specs.Answers.{Judged, ok, no}
use Rattle.store.specs.declared.Setting.{Setting}
use Rattle.store.specs.declared.Edition.{Edition}
use Rattle.store.specs.Store.{is_free}
use Rattle.store.specs.Rooms.{get_in, place_in, found_as, shown_as}
use Rattle.store.specs.Switches.{settings_of}
use Rattle.store.proofs.ShowsAll.{shows_all}
use Rattle.border.specs.declared.replies.FoundReply.{FoundReply}
use Rattle.border.specs.declared.replies.ShownReply.{ShownReply}
use Rattle.border.specs.Exported.{SaysShown, SaysFound, AsShown, ShowsRight}

module _ (room : List ℕ) where
  -- shows-right
  pub shows_right : ShowsRight room
  shows_right k r h held q g = judged (place_in room k) refl h
    where
      same : (s : Setting) → SaysShown r (Ok (Some s)) → get_in room s.family s.edition ≡ ok (record { number = s.edition; settings = settings_of s.switches })
          → AsShown r q
      same s y e =
          let there = ap (λ (f : ℕ). get_in room f r.edition) y.family ∙ ap (get_in room s.family) y.edition ∙ e in
          let z = subst (λ (x : Judged Edition). SaysFound q (found_as x)) there g in
          record {
            done = z.number;
            edition = z.edition ∙ sym y.edition;
            comments = z.comments ∙ sym y.comments;
            callf = z.callf ∙ sym y.callf;
            folds = z.folds ∙ sym y.folds;
          }

      on : (s : Setting) → place_in room k ≡ ok s → (b : Bool) → is_free s ≡ b → SaysShown r (Ok (cond b None (Some s))) → AsShown r q
      on s e true f y = absurd (omega (arith, held, y.held))
      on s e false f y = same s y ((shows_all room).shown_found k s e f)

      judged : (x : Judged Setting) → place_in room k ≡ x → SaysShown r (shown_as x) → AsShown r q
      judged (ok s) e y = on s e (is_free s) refl y
      judged (no p) e y = absurd (omega (arith, held, y.held))
