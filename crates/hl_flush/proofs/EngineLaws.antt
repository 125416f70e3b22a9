-- What an engine tells of the two steps of a flush.
use Rattle.std.proofs.Common.{◌≡◌, ℕ, ◌%◌, ◌<◌, Bool, true, false, cond, List, [], ◌∷◌, ◌++◌, sym, ap, ◌∙◌, subst, arith, append_assoc}
use Rattle.std.specs.Prelude.{Option, Some, None, unwrap_or, Result, Ok, Err}
use Rattle.hl_model.specs.declared.fault.Fault.{Fault}
use Rattle.hl_model.specs.declared.fault.Fault.TheVariants.{NoneSealed, NotInFlight}
use Rattle.hl_model.specs.declared.step.Reply.{Reply}
use Rattle.hl_model.specs.declared.step.Reply.TheVariants.{Page}
use Rattle.hl_model.specs.declared.step.Step.{Step}
use Rattle.hl_model.specs.declared.step.Step.TheVariants.{FlushTake, FlushDone}
use Rattle.hl_model.specs.Sizes.{AreInRange}
use Rattle.hl_model.specs.Pages.{is_in_flight, next_to_flush}
use Rattle.hl_model.specs.Words.{page_words}
use Rattle.hl_model.specs.Replies.{unless_page, unless_fault, fault_of, reply_of, IsAccepted}
use Rattle.hl_laws.proofs.AcceptedLaws.{extended-none}
use Rattle.hl_laws.proofs.FrameFacts.{in_flight_last, in_flight_unfreed}
use Rattle.hl_action.specs.Firings.{FiringRecord}
use Rattle.hl_image.specs.Image.{image}
use Rattle.hl_cells.specs.Engines.{Whole, EngineStands, Shows}
use Rattle.hl_cells.specs.EngineSteps.{Told, Moved}
use Rattle.hl_flush.specs.Flush.{EndsFlush, IsNextAgain}
use Rattle.hl_cells.proofs.ShownPages.{shown-last}
use Rattle.hl_flush.proofs.FlushLaws.{take-named, take-reply, take-lawful, take-in_flight, take-words, taken_again}

-- where a page is told, or a fault, the result is just that
told_page : (keeps : ℕ → FiringRecord → ℕ → Type 0) (firing : Option FiringRecord) (fault : Option Fault) (page : ℕ) (result : Result Reply Fault) → Told keeps firing (unless_fault fault (Page page)) result → result ≡ unless_fault fault (Page page)
told_page keeps firing None page result h = h
told_page keeps firing (Some fault) page result h = h

-- a take is answered as the definitions do
take_told : {F : Type 0} (keeps : ℕ → FiringRecord → ℕ → Type 0) (old new : Whole F) (A : List Step) (result : Result Reply Fault) → Moved keeps old A FlushTake new result → result ≡ reply_of old.core.sizes A FlushTake
take_told keeps old new A result m = told_page keeps None (fault_of old.core.sizes A FlushTake) (unwrap_or (next_to_flush old.core.sizes A) 0) result m.told

refused_as : (n : Option ℕ) (fault : Fault) → unless_fault (unless_page NoneSealed n) (Page (unwrap_or n 0)) ≡ Err fault → fault ≡ NoneSealed
refused_as None fault h = let same : NoneSealed ≡ fault = cc in sym same
refused_as (Some q) fault h = cc

-- a refused take found no page
pub take-refused : {F : Type 0} (keeps : ℕ → FiringRecord → ℕ → Type 0) (old new : Whole F) (A : List Step) (fault : Fault) → Moved keeps old A FlushTake new (Err fault) → fault ≡ NoneSealed
take-refused keeps old new A fault m = refused_as (next_to_flush old.core.sizes A) fault (sym (take_told keeps old new A (Err fault) m))

-- and is answered so
pub take-none : {F : Type 0} (keeps : ℕ → FiringRecord → ℕ → Type 0) (old new : Whole F) (A : List Step) (fault : Fault) → Moved keeps old A FlushTake new (Err fault) → reply_of old.core.sizes A FlushTake ≡ Err NoneSealed
take-none keeps old new A fault m = sym (take_told keeps old new A (Err fault) m) ∙ ap (λ f. Err f) (take-refused keeps old new A fault m)

-- what is told of a take by an engine that stood at A
pub record TakesPage {F : Type 0} (A : List Step) (old new : Whole F) (page : ℕ) : Type 0 where
  pub reply : reply_of old.core.sizes A FlushTake ≡ Ok (Page page)
  pub sizes : new.core.sizes ≡ old.core.sizes
  pub standing : EngineStands new (A ++ FlushTake ∷ [])

-- an accepted take took its page
pub take-taken : {F : Type 0} (keeps : ℕ → FiringRecord → ℕ → Type 0) (old new : Whole F) (A : List Step) (page : ℕ) → Moved keeps old A FlushTake new (Ok (Page page)) → TakesPage A old new page
take-taken keeps old new A page m =
    let reply : reply_of old.core.sizes A FlushTake ≡ Ok (Page page) = sym (take_told keeps old new A (Ok (Page page)) m) in
    let lawful : fault_of old.core.sizes A FlushTake ≡ None = take-lawful old.core.sizes A page (take-named old.core.sizes A page reply) in
    record { reply = reply; sizes = m.sizes; standing = subst (EngineStands new) (extended-none old.core.sizes A FlushTake lawful) m.standing }

-- the end of the flush of a page in flight is accepted
pub done-ended : {F : Type 0} (keeps : ℕ → FiringRecord → ℕ → Type 0) (old new : Whole F) (A : List Step) (page : ℕ) (ok : Bool) (result : Result Reply Fault) → Moved keeps old A (FlushDone page ok) new result → is_in_flight old.core.sizes page A ≡ true → EngineStands new (A ++ FlushDone page ok ∷ [])
done-ended keeps old new A page ok result m out =
    subst (EngineStands new) (extended-none old.core.sizes A (FlushDone page ok) (ap (λ b. cond b None (Some NotInFlight)) out)) m.standing

module _ {F : Type 0} (A : List Step) (old new : Whole F) (page : ℕ) (before : EngineStands old A) (t : TakesPage A old new page) where
  next : next_to_flush old.core.sizes A ≡ Some page
  next = take-named old.core.sizes A page t.reply

  -- the page is in flight
  pub taken-out : is_in_flight new.core.sizes page (A ++ FlushTake ∷ []) ≡ true
  taken-out = subst (λ sizes. is_in_flight sizes page (A ++ FlushTake ∷ []) ≡ true) (sym t.sizes) (take-in_flight old.core.sizes A page next)

  -- its frame shows it
  pub taken-shown : Shows new page
  taken-shown =
      let range : AreInRange new.core.sizes = t.standing.core_stands.in_range in
      let accepted : IsAccepted new.core.sizes (A ++ FlushTake ∷ []) = t.standing.core_stands.accepted in
      let some_words : 0 < new.core.sizes.page_size = omega (arith, range.page_size_least) in
      let some_frames : 0 < new.core.sizes.frames = omega (arith, range.frames_least) in (
        A ++ FlushTake ∷ [],
        t.standing,
        shown-last new.core.sizes (page % new.core.sizes.frames) page (A ++ FlushTake ∷ [])
            (in_flight_last new.core.sizes (A ++ FlushTake ∷ []) page some_words some_frames accepted taken-out)
            (in_flight_unfreed new.core.sizes (A ++ FlushTake ∷ []) page some_words accepted taken-out),
      )

  -- its words are what they were
  pub taken-words : page_words new.core.sizes page (A ++ FlushTake ∷ []) ≡ page_words old.core.sizes page A
  taken-words = ap (λ sizes. page_words sizes page (A ++ FlushTake ∷ [])) t.sizes ∙ take-words old.core.sizes A page

  -- where its image was handed to the writer, and its flush ended, the flush is whole
  pub ends-flush : {W : Type 0} (ok flag : Bool) (did : W → ℕ → List ℕ → W → Type 0) (first last : W) (words bytes : List ℕ) (ended : Whole F) → flag ≡ ok → ((B : List Step) → EngineStands new B → words ≡ page_words new.core.sizes page B) → bytes ≡ image page words → did first page bytes last → ((B : List Step) → EngineStands new B → is_in_flight new.core.sizes page B ≡ true → EngineStands ended (B ++ FlushDone page flag ∷ [])) → EndsFlush A ok did old ended first last page
  ends-flush ok flag did first last words bytes ended flag_is words_are bytes_are wrote ends =
      let shown : words ≡ page_words old.core.sizes page A = words_are (A ++ FlushTake ∷ []) t.standing ∙ taken-words in
      let both : (A ++ FlushTake ∷ []) ++ FlushDone page flag ∷ [] ≡ A ++ FlushTake ∷ FlushDone page ok ∷ [] = append_assoc A (FlushTake ∷ []) (FlushDone page flag ∷ []) ∙ ap (λ b. A ++ FlushTake ∷ FlushDone page b ∷ []) flag_is in
      record { taken = t.reply; written = subst (λ bs. did first page bs last) (bytes_are ∙ ap (image page) shown) wrote; standing = subst (EngineStands ended) both (ends (A ++ FlushTake ∷ []) t.standing taken-out) }

  -- the page of a failed flush is the next one again
  pub next_again : IsNextAgain A old page
  next_again =
      take-reply old.core.sizes (A ++ FlushTake ∷ FlushDone page false ∷ []) page
      (taken_again old.core.sizes A page before.core_stands.accepted next)
