-- No thread stores at the tail or beyond.
use Rattle.std.proofs.Common.{◌≡◌, ℕ, ◌<◌, ◌≤◌, Bool, true, false, List, [], ◌∷◌, ◌++◌, refl, ap, ◌∙◌, inl, inr, ⊎_elim, subst, arith}
use Rattle.std.specs.Prelude.{if◌then◌else◌}
use Rattle.std.specs.List.{AllByRecursion as Every, list_any}
use Rattle.std.proofs.lemmas.Bool.{ne_eqb}
use Rattle.hl_model.specs.declared.step.Step.{Step}
use Rattle.hl_model.specs.declared.step.Step.TheVariants.{Allocate, CleanTake}
use Rattle.hl_model.specs.Offsets.{tail}
use Rattle.hl_model.specs.Sizes.{Sizes}
use Rattle.hl_history.specs.declared.view.Entry.{Entry}
use Rattle.hl_history.specs.Lists.{entry, Begins, left_by}
use Rattle.hl_words.specs.declared.view.Touch.{Touch}
use Rattle.hl_words.specs.declared.view.Touch.TheVariants.{Stored as StoredIn, Loaded as LoadedFrom, Changed as ChangedIn, Called}
use Rattle.hl_words.proofs.Cut.{every_append}
use Rattle.hl_images.specs.Entered.{newest_writes}
use Rattle.hl_traces.specs.declared.act.Act.TheVariants.{Met}
use Rattle.hl_memory.specs.Acts.{is_of_pages, IsWriteAt, AreActs}
use Rattle.hl_traces.specs.OneTrace.{ActBy, acts_by, left_at}
use Rattle.hl_traces.specs.Traces.{placed_by, places, acts_of}
use Rattle.hl_traces.proofs.AppendLaws.{LeavesOnly}
use Rattle.hl_traces.proofs.RecordLaws.{found_one}
use Rattle.hl_traces.proofs.JoinLaws.{not_both, tail_more}
use Rattle.hl_traces.proofs.ThreadLaws.{every_thread}

-- who is no thread has no acts
pub none_of_other : (is_thread : ℕ → Bool) (i : ℕ) (all : List ActBy) → is_thread i ≡ false → Every (λ (t : ActBy). is_thread t.thread ≡ true) all → acts_by i all ≡ []
none_of_other is_thread i [] other theirs = refl
none_of_other is_thread i (t ∷ all) other theirs =
    ap (λ (b : Bool). if b then t.act ∷ acts_by i all else acts_by i all) (ne_eqb t.thread i (λ same. not_both theirs.0 (ap is_thread same ∙ other)))
    ∙ none_of_other is_thread i all other theirs.1

-- Where the one list is this, and no call flushes or cleans, an address at the tail or beyond
module _ (sizes : Sizes) (page_some : 0 < sizes.page_size) (whole : List Step) (a : ℕ) (far : tail sizes whole ≤ a) where
  -- so it is with a call
  abbrev pub Plain : Entry → Type 0
  Plain e = Begins (left_by e) whole × (list_any is_of_pages e.steps ≡ false)

  placed_below : (A : List Step) (s : Step) → Every (LeavesOnly a 0) (placed_by sizes A s)
  placed_below A (Allocate t k) = (tt, tt)
  placed_below A _ = tt

  places_below : (A steps : List Step) → Every (LeavesOnly a 0) (places sizes A steps)
  places_below A [] = tt
  places_below A (s ∷ steps) = every_append (LeavesOnly a 0) (places sizes (A ++ s ∷ []) steps) (placed_by sizes A s) (places_below (A ++ s ∷ []) steps) (placed_below A s)

  written_below : (x v : ℕ) (calls : List Entry) (w : Step) → IsWriteAt sizes x v calls w → Every Plain calls → x ≡ a → v ≡ 0
  written_below x v calls w d plain same =
      let first = (subst (Every Plain) d.4 plain).0.0 in
      absurd (omega (arith, d.5, tail_more sizes page_some (left_by d.2) first.0, ap (tail sizes) first.1, same, far))

  -- no call swept a page
  none_swept : (list : List Step) (calls older : List Entry) → calls ≡ entry list (CleanTake ∷ []) ∷ older → Every Plain calls → ⊥
  none_swept list calls older is plain = let first = (subst (Every Plain) is plain).0.1 in absurd (let contrary : true ≡ false = first in cc)

  -- such a rider's acts store nothing there
  pub puts_below : (ts : List Touch) (calls : List Entry) (waiting : List Step) → AreActs sizes ts calls waiting → Every Plain calls → Every (LeavesOnly a 0) (acts_of sizes ts calls)
  puts_below [] calls waiting h plain = tt
  puts_below (StoredIn x v ∷ ts) calls waiting (inl w) plain = (written_below x v calls w.0 w.3 plain, puts_below ts calls w.1 w.4 plain)
  puts_below (StoredIn x v ∷ ts) calls waiting (inr z) plain = absurd (none_swept z.0.1 calls z.0.2 z.0.3 plain)
  puts_below (LoadedFrom x v ∷ ts) calls waiting h plain = (tt, puts_below ts calls waiting h plain)
  puts_below (ChangedIn x f v ∷ ts) calls waiting w plain = (written_below x v calls w.0 w.3 plain, puts_below ts calls w.1 w.4 plain)
  puts_below (Called met left ∷ ts) [] waiting h plain = absurd h
  puts_below (Called met left ∷ ts) (call ∷ calls) waiting h plain =
      let P = LeavesOnly a 0 in
      every_append P (places sizes call.before call.steps ++ Met left.steps ∷ []) (acts_of sizes ts calls)
      (every_append P (places sizes call.before call.steps) (Met left.steps ∷ []) (places_below call.before call.steps) (tt, tt))
      (puts_below ts calls (waiting ++ newest_writes call.steps []) h plain.1)
  puts_below (_ ∷ ts) calls waiting h plain = puts_below ts calls waiting h plain

  -- so nothing is left at the tail or beyond where all threads are such riders
  pub nothing_beyond : (all : List ActBy) → ((i : ℕ) → Every (LeavesOnly a 0) (acts_by i all)) → left_at a all ≡ 0
  nothing_beyond all each = ⊎_elim (λ (e : left_at a all ≡ 0). e) (λ (e : left_at a all ≡ 0). e) (found_one a 0 all (every_thread (LeavesOnly a 0) all each))
