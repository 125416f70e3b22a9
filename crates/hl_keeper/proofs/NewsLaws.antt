-- Whether anything is new to a pass, and what its loads of the master's words make of it.
use Rattle.std.proofs.Common.{◌≡◌, ℕ, Bool, true, false, ltb, length, refl, sym, ap, ◌∙◌}
use Rattle.std.specs.Prelude.{◌&&◌}
use Rattle.hl_model.specs.declared.view.View.{View}
use Rattle.hl_words.specs.declared.which.Which.TheVariants.{ReadOnly, Head, Ended}
use Rattle.hl_words.specs.States.{RiderState, with_view}
use Rattle.hl_words.specs.Views.{newest, looked, with_loaded}
use Rattle.hl_pass.specs.declared.news.News.{News}
use Rattle.hl_pass.specs.Views.{is_current as view_is_current}
use Rattle.hl_keeper.specs.Passes.{PassRecord, seen, is_current, with_news}
use Rattle.hl_keeper.proofs.PassLaws.{pass_with, loaded_both}

module _ (p : PassRecord) (r h e : ℕ) (v : View) (is : v ≡ seen p) where
  abbrev news : News
  news = record { read_only = r; head = h; ended = e }

  -- something is new to its view
  pub current_new : (b : Bool) → b ≡ view_is_current v p.epoch news → b ≡ false → b ≡ is_current r h e p
  unfolding is_current
  current_new b told is_false = is_false ∙ sym (ap (λ c. c && ltb (length p.touches) 32) (ap (λ (w : View). view_is_current w p.epoch news) (sym is) ∙ sym told ∙ is_false))

  -- nothing is
  pub current_room : (b : Bool) (n : ℕ) → b ≡ view_is_current v p.epoch news → b ≡ true → n ≡ length p.touches → ltb n 32 ≡ is_current r h e p
  unfolding is_current
  current_room b n told is_true count =
      ap (λ m. ltb m 32) count ∙ sym (ap (λ c. c && ltb (length p.touches) 32) (ap (λ (w : View). view_is_current w p.epoch news) (sym is) ∙ sym told ∙ is_true))

-- the rider after it loaded all three words
loaded_all_three : (r h e : ℕ) (before first second third : RiderState) → first ≡ with_view (with_loaded ReadOnly r before.view) before → second ≡ with_view (with_loaded Head h first.view) first → third ≡ with_view (with_loaded Ended e second.view) second
    → third ≡ with_view (with_loaded Ended e (with_loaded Head h (with_loaded ReadOnly r before.view))) before
loaded_all_three r h e before first second third a b c =
    c ∙ ap (λ (q : RiderState). with_view (with_loaded Ended e q.view) q) (loaded_both r h before first second a b)

-- the pass after these loads; whether all is known asks the pass, and not its rider
module _ (p now : PassRecord) (r h e : ℕ) (first second third : RiderState) (n : p ≡ now) (a : first ≡ with_view (with_loaded ReadOnly r p.rider.view) p.rider) (b : second ≡ with_view (with_loaded Head h first.view) first) (c : third ≡ with_view (with_loaded Ended e second.view) second) where
  pub news_is : pass_with p p.touches third ≡ with_news (newest (looked third.view.touches).read_only) (newest (looked third.view.touches).head) (newest (looked third.view.touches).ended) now
  unfolding with_news
  news_is = rw (sym n, loaded_all_three r h e p.rider first second third a b c) refl

  pub current_rider : is_current r h e (pass_with p p.touches third) ≡ is_current (newest (looked third.view.touches).read_only) (newest (looked third.view.touches).head) (newest (looked third.view.touches).ended) now
  unfolding is_current
  current_rider = rw (sym n, loaded_all_three r h e p.rider first second third a b c) refl
