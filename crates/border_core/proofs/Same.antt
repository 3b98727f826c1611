-- Equal answers are said by the same numbers, and the same is answered to equal settings.
use mathlib.Core.Path.{◌≡◌, refl, sym, ap, ◌∙◌, subst}
use mathlib.Core.List.{List}
use Prim.Native.Nat.{ℕ}
use lib.IntN.{pos}
use lib.ListN.{length}
use Rattle.rules.specs.declared.Address.{Address}
use Rattle.rules.specs.declared.Refusal.{Refusal}
use Rattle.std.specs.Prelude.{Ok, Result, Err}
use Rattle.rules.specs.declared.Settings.{Settings}
use Rattle.rules.specs.declared.Sizes.{Sizes}
use Rattle.promises.specs.Demand2.{Answered}
use Rattle.rules.specs.Answers.{Judged, ok, no}
use Rattle.rules.specs.Programs.{Program}
use Rattle.listing.specs.Tables.{ListedAs}
use Rattle.entries.specs.Stems as entry
use Rattle.entries.specs.Stems.{run_stems}
use Rattle.printing.specs.Page.{page_length, PrintedRun}
use Rattle.border_core.specs.declared.replies.Reply.{Reply}
use Rattle.border_core.specs.declared.replies.CountedReply.{CountedReply}
use Rattle.border_core.specs.declared.replies.SitsReply.{SitsReply}
use Rattle.border_core.specs.declared.pages.PrintedReply.{PrintedReply}
use Rattle.border_core.specs.Replies.{counted_as, Says, SaysCounted, SaysSits}
use Rattle.border_core.specs.Pages.{SaysPrinted}
use Rattle.border_core.specs.Stems.{SaysStems}

pub says_same : (r : Reply) (a b : Result Sizes Refusal) → a ≡ b → Says r a → Says r b
says_same r a b e h = subst (λ (x : Result Sizes Refusal). Says r x) e h

pub counted_same : (r : CountedReply) (a b : Result ℕ Refusal) → a ≡ b → SaysCounted r a → SaysCounted r b
counted_same r a b e h = subst (λ (x : Result ℕ Refusal). SaysCounted r x) e h

pub sits_same : (r : SitsReply) (a b : Result Address Refusal) → a ≡ b → SaysSits r a → SaysSits r b
sits_same r a b e h = subst (λ (x : Result Address Refusal). SaysSits r x) e h

pub printed_same : (r : PrintedReply) (a b : Result Sizes Refusal) → a ≡ b → SaysPrinted r a → SaysPrinted r b
printed_same r a b e h = subst (λ (x : Result Sizes Refusal). SaysPrinted r x) e h

-- C-13: what was handed out
pub done_said : (a : Result (Sizes × ℕ) Refusal) (s : Sizes) (n : ℕ) → a ≡ Ok (s, n)
    → SaysStems record { number = 0; place = 0; argument = 0; amount = pos 0; listing = s.listing; rewrites = s.rewrites; image = s.image; stems = n } a
done_said a s n e =
    subst
    (λ (x : Result (Sizes × ℕ) Refusal).
    SaysStems record { number = 0; place = 0; argument = 0; amount = pos 0; listing = s.listing; rewrites = s.rewrites; image = s.image; stems = n } x)
    (sym e)
    record { number = refl; place = refl; argument = refl; amount = refl; listing = refl; rewrites = refl; image = refl; stems = refl }

-- what is printed
pub page_said : (a : Result Sizes Refusal) (s : Sizes) (n : ℕ) → a ≡ Ok s → n ≡ page_length a
    → SaysPrinted record { number = 0; place = 0; argument = 0; amount = pos 0; page = n; listing = s.listing; rewrites = s.rewrites; image = s.image } a
page_said a s n e p =
    subst
    (λ (x : Result Sizes Refusal).
    SaysPrinted record { number = 0; place = 0; argument = 0; amount = pos 0; page = n; listing = s.listing; rewrites = s.rewrites; image = s.image } x)
    (sym e)
    record { number = refl; place = refl; argument = refl; amount = refl; page = p ∙ ap page_length e; listing = refl; rewrites = refl; image = refl }

-- what was read
pub listed_counted : (frames starts : List ℕ) (r : Result ℕ Refusal) (x : Judged Program) → ListedAs frames starts r x → r ≡ counted_as x
listed_counted frames starts (Ok n) (ok p) h = ap Ok h.count
listed_counted frames starts (Ok n) (no q) h = absurd h
listed_counted frames starts (Err q) (ok p) h = absurd h
listed_counted frames starts (Err q) (no r) h = ap Err h

-- ---- equal settings

module _ (asked given : Settings) (e : asked ≡ given) (text : List ℕ) where
  pub as_asked : (out image : List ℕ) (a : Result Sizes Refusal) (out' image' : List ℕ) → Answered asked text out image a out' image' → Answered given text out image a out' image'
  as_asked out image a out' image' h = subst (λ (x : Settings). Answered x text out image a out' image') e h

  pub printed_as_asked : (page image : List ℕ) (a : Result Sizes Refusal) (page' image' : List ℕ) → PrintedRun asked text page image a page' image'
      → PrintedRun given text page image a page' image'
  printed_as_asked page image a page' image' h = subst (λ (x : Settings). PrintedRun x text page image a page' image') e h

  pub stems_as_asked : (out image list : List ℕ) (a : Result (Sizes × ℕ) Refusal) (out' image' list' : List ℕ)
      → entry.Stems (run_stems asked text (length out) (length image) (length list)) a out image list out' image' list'
      → entry.Stems (run_stems given text (length out) (length image) (length list)) a out image list out' image' list'
  stems_as_asked out image list a out' image' list' h =
      subst (λ (x : Settings). entry.Stems (run_stems x text (length out) (length image) (length list)) a out image list out' image' list') e h
