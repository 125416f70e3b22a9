-- Later states of riders.
use Rattle.std.proofs.Common.{◌≡◌, ℕ, zero, suc, ◌+◌, List, [], ◌∷◌, ◌++◌, Some, slice_get, refl, ap, sym, ◌∙◌, arith, append_assoc}
use Rattle.hl_model.specs.declared.step.Step.{Step}
use Rattle.hl_history.specs.declared.view.Entry.{Entry}
use Rattle.hl_history.specs.Lists.{entry}
use Rattle.hl_words.specs.declared.view.Touch.{Touch}
use Rattle.hl_words.specs.declared.view.Touch.TheVariants.{Loaded, Called}
use Rattle.hl_words.specs.declared.view.RiderView.{RiderView}
use Rattle.hl_words.specs.States.{RiderState, with_view, extent_met, extent_left}
use Rattle.hl_words.specs.Views.{loaded, touched}
use Rattle.hl_keeper.specs.Pages.{loaded_all}
use Rattle.hl_domain.specs.Domains.{with_entry}
use Rattle.hl_images.specs.Later.{IsLater}
use Rattle.hl_images.specs.Flushes.{LaterStates}

-- the loads of some words stand before what the rider had done
record HasLoads (cell : ℕ) (ws : List ℕ) (view : RiderView) : Type 0 where
  loads : List Touch
  touches : (loaded_all cell ws view).touches ≡ loads ++ view.touches
  name : (loaded_all cell ws view).name ≡ view.name

has_loads : (cell : ℕ) (ws : List ℕ) (view : RiderView) → HasLoads cell ws view
unfolding loaded_all
has_loads cell [] view = record { loads = []; touches = refl; name = refl }
has_loads cell (w ∷ ws) view =
    let h = has_loads (cell + 1) ws (loaded cell w view) in
    record {
      loads = h.loads ++ Loaded cell w ∷ [];
      touches = h.touches ∙ sym (append_assoc h.loads (Loaded cell w ∷ []) view.touches);
      name = h.name;
    }

-- one of them
pub record HasLoad (cell : ℕ) (ws : List ℕ) (view : RiderView) (n v : ℕ) : Type 0 where
  pub newer : List Touch
  pub between : List Touch
  pub touches : (loaded_all cell ws view).touches ≡ newer ++ Loaded (cell + n) v ∷ (between ++ view.touches)

pub has_load : (cell : ℕ) (ws : List ℕ) (view : RiderView) (n v : ℕ) → slice_get ws n ≡ Some v → HasLoad cell ws view n v
unfolding loaded_all
has_load cell [] view n v e = absurd cc
has_load cell (w ∷ ws) view zero v e =
    let h = has_loads (cell + 1) ws (loaded cell w view) in
    let same : w ≡ v = cc e in
    let place : cell ≡ cell + 0 = omega arith in
    record {
      newer = h.loads;
      between = [];
      touches = h.touches ∙ ap (λ (x : ℕ). h.loads ++ Loaded cell x ∷ view.touches) same ∙ ap (λ (x : ℕ). h.loads ++ Loaded x v ∷ view.touches) place;
    }
has_load cell (w ∷ ws) view (suc n) v e =
    let h = has_load (cell + 1) ws (loaded cell w view) n v e in
    let place : (cell + 1) + n ≡ cell + suc n = omega arith in
    record {
      newer = h.newer;
      between = h.between ++ Loaded cell w ∷ [];
      touches = h.touches ∙ ap (λ (x : ℕ). h.newer ++ Loaded x v ∷ (h.between ++ Loaded cell w ∷ view.touches)) place
          ∙ ap (λ (l : List Touch). h.newer ++ Loaded (cell + suc n) v ∷ l) (sym (append_assoc h.between (Loaded cell w ∷ []) view.touches));
    }

pub same : (r : RiderState) → IsLater r r
same r = record { name = refl; touches = ([], refl); more = []; calls = refl }

pub still : (old mid new : RiderState) → IsLater old mid → IsLater mid new → IsLater old new
still old mid new a b = record {
  name = b.name ∙ a.name;
  touches = (
    b.touches.0 ++ a.touches.0,
    b.touches.1 ∙ ap (λ (l : List Touch). b.touches.0 ++ l) a.touches.1 ∙ sym (append_assoc b.touches.0 a.touches.0 old.view.touches),
  );
  more = b.more ++ a.more;
  calls = b.calls ∙ ap (λ (l : List Entry). b.more ++ l) a.calls ∙ sym (append_assoc b.more a.more old.calls);
}

pub touch : (t : Touch) (r : RiderState) → IsLater r (with_view (touched t r.view) r)
touch t r = record { name = refl; touches = (t ∷ [], refl); more = []; calls = refl }

pub loads : (cell : ℕ) (words : List ℕ) (r : RiderState) → IsLater r (with_view (loaded_all cell words r.view) r)
loads cell words r =
    let h = has_loads cell words r.view in
    record { name = h.name; touches = (h.loads, h.touches); more = []; calls = refl }

pub call : (was now : ℕ) (list steps : List Step) (r : RiderState) → IsLater r (with_entry was now list steps r)
call was now list steps r =
    let e = entry list steps in
    record { name = refl; touches = (Called (extent_met was e) (extent_left now e) ∷ [], refl); more = e ∷ []; calls = refl }

pub later_states : LaterStates
later_states = record {
  same = same;
  still = still;
  touch = touch;
  loads = loads;
  call = call;
}
