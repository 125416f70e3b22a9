-- The images of the pages that a script left, as they are written one after another.
use Rattle.std.proofs.Common.{◌≡◌, ℕ, ◌+◌, ◌<◌, ◌≤◌, true, List, [], ◌∷◌, ◌++◌, length, refl, sym, ap, ◌∙◌, subst, arith, append_assoc, append-nil}
use Rattle.std.specs.Prelude.{Option, Some, None, option_map, Result, Ok, Err, OnOk}
use Rattle.std.specs.Io.KnownBytes.{Appends}
use Rattle.std.proofs.KnownBytes.{Appends-nil, Appends-trans}
use Rattle.std.proofs.lemmas.List.{nil_from_length}
use Rattle.hl_model.specs.declared.fault.Fault.TheVariants.{NoneSealed}
use Rattle.hl_model.specs.declared.step.Reply.TheVariants.{Page}
use Rattle.hl_model.specs.declared.step.Step.{Step}
use Rattle.hl_model.specs.declared.step.Step.TheVariants.{FlushTake, FlushDone}
use Rattle.hl_model.specs.Sizes.{Sizes, AreInRange}
use Rattle.hl_model.specs.Pages.{next_to_flush}
use Rattle.hl_model.specs.Words.{page_words}
use Rattle.hl_model.specs.Replies.{reply_of, IsAccepted}
use Rattle.hl_image.specs.Image.{image}
use Rattle.hl_image.specs.Lines.{line_of}
use Rattle.hl_cells.specs.Engines.{Whole, EngineStands}
use Rattle.hl_flush.specs.Flush.{EndsFlush}
use Rattle.hl_flush.specs.Unflushed.{unflushed, image_lines}
use Rattle.hl_flush.proofs.FlushLaws.{take-named, take-unnamed}
use Rattle.hl_flush.proofs.UnflushedLaws.{unflushed-next, unflushed-none, unflushed-few, image_lines-next, image_lines-none}

-- an engine stood at A so many flushes ago. It stands at a list now whose images are yet to be written, and those before
-- them were written
pub record IsFlushing {F : Type 0} (sizes : Sizes) (A : List Step) (flushes : ℕ) (before now : Option (List ℕ)) (engine : Whole F) : Type 0 where
  pub steps : List Step
  pub standing : EngineStands engine steps
  pub sizes_is : engine.core.sizes ≡ sizes
  pub lines : List ℕ
  pub wrote : Appends before now lines
  pub all : lines ++ image_lines sizes steps ≡ image_lines sizes A
  pub few : length (unflushed sizes steps) + flushes ≤ sizes.frames

-- none is written at first
pub flushing_start : {F : Type 0} (engine : Whole F) (A : List Step) (before : Option (List ℕ)) → EngineStands engine A → IsFlushing engine.core.sizes A 0 before before engine
flushing_start engine A before stands =
    let range : AreInRange engine.core.sizes = stands.core_stands.in_range in
    let some : 0 < engine.core.sizes.page_size = omega (arith, range.page_size_least) in
    record {
      steps = A;
      standing = stands;
      sizes_is = refl;
      lines = [];
      wrote = Appends-nil before;
      all = refl;
      few = omega (arith, unflushed-few engine.core.sizes A some stands.core_stands.accepted);
    }

module _ {F : Type 0} (sizes : Sizes) (A : List Step) (flushes : ℕ) (before now : Option (List ℕ)) (engine : Whole F) (so_far : IsFlushing sizes A flushes before now engine) where
  accepted : IsAccepted sizes so_far.steps
  accepted = subst (λ s. IsAccepted s so_far.steps) so_far.sizes_is so_far.standing.core_stands.accepted

  -- one more flush writes the first of the images that are left
  pub flushing_next : {W : Type 0} (did : W → ℕ → List ℕ → W → Type 0) (next : Whole F) (first last : W) (later : Option (List ℕ)) (page : ℕ)
      → EndsFlush so_far.steps true did engine next first last page → next.core.sizes ≡ engine.core.sizes
      → ((bytes : List ℕ) → did first page bytes last → Appends now later (line_of bytes))
      → IsFlushing sizes A (flushes + 1) before later next
  flushing_next did next first last later page ends same wrote =
      let taken : reply_of sizes so_far.steps FlushTake ≡ Ok (Page page) = subst (λ s. reply_of s so_far.steps FlushTake ≡ Ok (Page page)) so_far.sizes_is ends.taken in
      let named : next_to_flush sizes so_far.steps ≡ Some page = take-named sizes so_far.steps page taken in
      let steps : List Step = so_far.steps ++ FlushTake ∷ FlushDone page true ∷ [] in
      let line : List ℕ = line_of (image page (page_words sizes page so_far.steps)) in
      let written : Appends now later line = subst (λ s. Appends now later (line_of (image page (page_words s page so_far.steps)))) so_far.sizes_is (wrote (image page (page_words engine.core.sizes page so_far.steps)) ends.written) in
      record {
        steps = steps;
        standing = ends.standing;
        sizes_is = same ∙ so_far.sizes_is;
        lines = so_far.lines ++ line;
        wrote = Appends-trans before now later so_far.lines line so_far.wrote written;
        all = append_assoc so_far.lines line (image_lines sizes steps) ∙ ap (λ ls. so_far.lines ++ ls) (sym (image_lines-next sizes so_far.steps page accepted named)) ∙ so_far.all;
        few = omega (arith, so_far.few, ap length (unflushed-next sizes so_far.steps page accepted named));
      }

  all_written : unflushed sizes so_far.steps ≡ [] → Appends before now (image_lines sizes A)
  all_written none =
      subst (Appends before now)
      (sym (append-nil so_far.lines) ∙ ap (λ ls. so_far.lines ++ ls) (sym (image_lines-none sizes so_far.steps none)) ∙ so_far.all)
      so_far.wrote

  -- where no page is left, all images were written
  pub flushing_none : reply_of engine.core.sizes so_far.steps FlushTake ≡ Err NoneSealed → Appends before now (image_lines sizes A)
  flushing_none refused =
      all_written (unflushed-none sizes so_far.steps (take-unnamed sizes so_far.steps (subst (λ s. reply_of s so_far.steps FlushTake ≡ Err NoneSealed) so_far.sizes_is refused)))

  -- none is left after as many flushes as there are frames
  pub flushing_spent : sizes.frames ≤ flushes → Appends before now (image_lines sizes A)
  flushing_spent spent = all_written (nil_from_length (unflushed sizes so_far.steps) (omega (arith, so_far.few)))

-- what was appended behind a reference's name was appended to the bytes, and the name is the same
pub lent_appended : {T E : Type 0} (r : Result T E) (name back : ℕ) (old new last : Option (List ℕ)) (bytes : List ℕ)
    → OnOk r (Appends (option_map (λ xs. name ∷ xs) old) (option_map (λ xs. back ∷ xs) new) bytes) → (name ≡ back → last ≡ new) → OnOk r (Appends old last bytes)
lent_appended (Err e) name back old new last bytes wrote same = tt
lent_appended (Ok x) name back None new last bytes wrote same = tt
lent_appended (Ok x) name back (Some xs) None last bytes wrote same = absurd wrote
lent_appended (Ok x) name back (Some xs) (Some ys) last bytes wrote same =
    let is : name ≡ back = cc in
    let grown : ys ≡ xs ++ bytes = cc in
    subst (λ l. Appends (Some xs) l bytes) (sym (same is)) grown
