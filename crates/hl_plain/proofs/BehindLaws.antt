-- What an allocator answers and shows, in the definitions of whole lists.
use Rattle.std.proofs.Common.{◌≡◌, ◌+◌, ◌<◌, ℕ, Bool, true, false, cond, List, [], ◌∷◌, ◌++◌, map, refl, sym, ap, ap₂, ◌∙◌, inl, inr, subst}
use Rattle.std.specs.Prelude.{Option, Some, None, Result, Ok}
use Rattle.hl_model.specs.declared.fault.Fault.{Fault}
use Rattle.hl_model.specs.declared.step.Reply.{Reply}
use Rattle.hl_model.specs.declared.step.Step.{Step}
use Rattle.hl_model.specs.Replies.{fault_of, answer_of, reply_of, unless_fault}
use Rattle.hl_model.specs.Bases.{Base, base_of}
use Rattle.hl_model.specs.AfterReplies.{base_after, fault_after, answer_at, reply_after}
use Rattle.hl_laws.proofs.CutLaws.{cuts_anywhere}
use Rattle.hl_plain.specs.Histories.{History, Follows, worded, answer_in, unless_met, answer_behind, Answers, AnswersBehind}
use Rattle.std.specs.Prelude.{option_map, is_some}
use Rattle.std.specs.List.{count_by, range_with_len}
use Rattle.std.proofs.lemmas.List.Sums.{sum_by-append}
use Rattle.hl_model.specs.declared.slot.Slot.{Slot}
use Rattle.hl_model.specs.Sizes.{Sizes}
use Rattle.hl_model.specs.Epochs.{safe_among, current_epoch, is_protected, epoch_of, slot_epoch, slot_epochs, safe_epoch}
use Rattle.hl_model.specs.Actions.{pending}
use Rattle.hl_model.specs.Views.{view_of, slot_view}
use Rattle.hl_model.specs.Frames.{last_entered, state_of_page, frame_of}
use Rattle.hl_model.specs.Snapshots.{frame_states, snapshot_of}
use Rattle.hl_model.specs.Bases.{slot_of, slot_in, marked, held_of, safe_in}
use Rattle.hl_laws.proofs.RowLaws.{row_at, rows_same}
use Rattle.hl_plain.specs.Shown.{state_at, frame_at, snapshot_at}
use Rattle.hl_plain.proofs.HistoryLaws.{present_is, fault_is, Follows-push}

-- the answers to an accepted step are the same, read or not
pub answer_is : (h : History) (A : List Step) (s : Step) → Follows h A → fault_after h.base h.steps s ≡ None → answer_in h s ≡ answer_behind A h s
answer_is h A s f none =
    ap (worded h.has_words h.steps s)
    (inside (answer_at (base_after h.base h.steps) (base_after h.base (h.steps ++ s ∷ [])) s) (answer_of h.base.sizes (A ++ h.steps) ((A ++ h.steps) ++ s ∷ []) s) same)
  where
    inside : (x y : Reply) → unless_fault (fault_after h.base h.steps s) x ≡ unless_fault (fault_of h.base.sizes (A ++ h.steps) s) y → x ≡ y
    inside x y e =
        let both : Ok x ≡ Ok y = sym (ap (λ o. unless_fault o x) none) ∙ e ∙ ap (λ o. unless_fault o y) (sym (fault_is h A s f) ∙ none) in
        cc

    same : reply_after h.base h.steps s ≡ reply_of h.base.sizes (A ++ h.steps) s
    same = ap (λ b. reply_after b h.steps s) f.base_is ∙ (cuts_anywhere h.base.sizes A h.steps f.accepted).reply s

-- what a step is answered from the base is what it is answered behind the list
pub answers_are : (h : History) (A : List Step) (s : Step) (r : Result Reply Fault) (k : History) → Follows h A → Answers h s r k → AnswersBehind A h s r k
answers_are h A s r k f (inr e) = inr (e.0, (sym (fault_is h A s f) ∙ e.1.0, e.1.1))
answers_are h A s r k f (inl e) = inl (e.0 ∙ replies (fault_after h.base h.steps s) refl, e.1 ∙ ap (λ o. unless_met o s h) (fault_is h A s f))
  where
    replies : (o : Option Fault) → fault_after h.base h.steps s ≡ o → unless_fault (fault_after h.base h.steps s) (answer_in h s) ≡ unless_fault (fault_of h.base.sizes (A ++ h.steps) s) (answer_behind A h s)
    replies None is = ap₂ (λ o x. unless_fault o x) (fault_is h A s f) (answer_is h A s f is)
    replies (Some fault) is =
        ap (λ o. unless_fault o (answer_in h s)) is ∙ sym (ap (λ o. unless_fault o (answer_behind A h s)) (sym (fault_is h A s f) ∙ is))

-- it goes on from the same list
pub follows_stay : (h : History) (A : List Step) (s : Step) (r : Result Reply Fault) (k : History) → Follows h A → Answers h s r k → Follows k A
follows_stay h A s r k f (inr e) = subst (λ (x : History). Follows x A) (sym e.1.1) f
follows_stay h A s r k f (inl e) = by_fault (fault_after h.base h.steps s) refl
  where
    by_fault : (o : Option Fault) → fault_after h.base h.steps s ≡ o → Follows k A
    by_fault None is = subst (λ (x : History). Follows x A) (sym (e.1 ∙ ap (λ o. unless_met o s h) is)) (Follows-push h A s (h.steps ++ s ∷ []) f is refl)
    by_fault (Some fault) is = subst (λ (x : History). Follows x A) (sym (e.1 ∙ ap (λ o. unless_met o s h) is)) f

-- what a slot of a list's base sees
view_core : (sizes : Sizes) (t : ℕ) (B : List Step) → option_map (λ (slot : Slot). slot.view) (slot_of sizes t B) ≡ slot_view sizes t B
unfolding slot_of slot_view
view_core sizes t B = by_test (is_protected t B)
  where
    by_test : (b : Bool) → option_map (λ (slot : Slot). slot.view) (cond b (Some (record { epoch = epoch_of t B; view = view_of sizes t B })) None) ≡ cond b (Some (view_of sizes t B)) None
    by_test true = refl
    by_test false = refl

pub view_is : (h : History) (A : List Step) (t : ℕ) → Follows h A → t < h.base.sizes.slots → option_map (λ (slot : Slot). slot.view) (slot_in (base_after h.base h.steps) t) ≡ slot_view h.base.sizes t (A ++ h.steps)
unfolding base_of
view_is h A t f lt =
    ap (λ b. option_map (λ (slot : Slot). slot.view) (slot_in b t)) (present_is h A f)
    ∙ ap (option_map (λ (slot : Slot). slot.view)) (row_at (λ t. slot_of h.base.sizes t (A ++ h.steps)) h.base.sizes.slots t None lt)
    ∙ view_core h.base.sizes t (A ++ h.steps)

-- the pending actions
pub waiting_is : (h : History) (A : List Step) → Follows h A → (base_after h.base h.steps).waiting ≡ pending (A ++ h.steps)
unfolding base_of
waiting_is h A f = ap (λ (b : Base). b.waiting) (present_is h A f)

-- what a frame of a list's base is at
state_core : (sizes : Sizes) (f : ℕ) (B : List Step) → state_at (base_of sizes B) (held_of sizes B f) ≡ frame_of sizes f B
unfolding base_of
state_core sizes f B = by_page (last_entered sizes f B)
  where
    by_page : (o : Option ℕ) → state_at (base_of sizes B) (option_map (marked sizes B) o) ≡ state_of_page sizes B o
    by_page None = refl
    by_page (Some p) = refl

frame_core : (sizes : Sizes) (n : ℕ) (B : List Step) → n < sizes.frames → frame_at (base_of sizes B) n ≡ frame_of sizes n B
unfolding base_of
frame_core sizes n B k = ap (state_at (base_of sizes B)) (row_at (held_of sizes B) sizes.frames n None k) ∙ state_core sizes n B

pub frame_is : (h : History) (A : List Step) (n : ℕ) → Follows h A → n < h.base.sizes.frames → frame_at (base_after h.base h.steps) n ≡ frame_of h.base.sizes n (A ++ h.steps)
frame_is h A n f lt = ap (λ b. frame_at b n) (present_is h A f) ∙ frame_core h.base.sizes n (A ++ h.steps) lt

-- the epochs of the slots of a list's base
epoch_core : (sizes : Sizes) (t : ℕ) (B : List Step) → option_map (λ (slot : Slot). slot.epoch) (slot_of sizes t B) ≡ slot_epoch t B
unfolding slot_of slot_epoch
epoch_core sizes t B = by_test (is_protected t B)
  where
    by_test : (b : Bool) → option_map (λ (slot : Slot). slot.epoch) (cond b (Some (record { epoch = epoch_of t B; view = view_of sizes t B })) None) ≡ cond b (Some (epoch_of t B)) None
    by_test true = refl
    by_test false = refl

map_twice : {X Y Z : Type 0} (g : Y → Z) (f : X → Y) (xs : List X) → map g (map f xs) ≡ map (λ x. g (f x)) xs
map_twice g f [] = refl
map_twice g f (x ∷ xs) = ap (λ l. g (f x) ∷ l) (map_twice g f xs)

some_told : {X Y : Type 0} (g : X → Y) (xs : List (Option X)) → count_by is_some (map (option_map g) xs) ≡ count_by is_some xs
some_told g [] = refl
some_told g (x ∷ xs) =
    sum_by-append (λ o. cond (is_some o) 1 0) (option_map g x ∷ []) (map (option_map g) xs)
    ∙ ap₂ (λ b n. (0 + cond b 1 0) + n) (one x) (some_told g xs)
    ∙ sym (sum_by-append (λ o. cond (is_some o) 1 0) (x ∷ []) xs)
  where
    one : (o : Option _) → is_some (option_map g o) ≡ is_some o
    one None = refl
    one (Some y) = refl

epochs_core : (sizes : Sizes) (B : List Step) → map (option_map (λ (slot : Slot). slot.epoch)) (base_of sizes B).slots ≡ slot_epochs sizes.slots B
unfolding base_of slot_epochs
epochs_core sizes B =
    map_twice (option_map (λ (slot : Slot). slot.epoch)) (λ t. slot_of sizes t B) (range_with_len 0 sizes.slots)
    ∙ rows_same (λ t. option_map (λ (slot : Slot). slot.epoch) (slot_of sizes t B)) (λ t. slot_epoch t B) sizes.slots (λ t. epoch_core sizes t B)

states_core : (sizes : Sizes) (B : List Step) → map (λ held. (state_at (base_of sizes B) held).0) (base_of sizes B).frames ≡ frame_states sizes B
unfolding base_of frame_states
states_core sizes B =
    map_twice (λ held. (state_at (base_of sizes B) held).0) (held_of sizes B) (range_with_len 0 sizes.frames)
    ∙ rows_same (λ f. (state_at (base_of sizes B) (held_of sizes B f)).0) (λ f. (frame_of sizes f B).0) sizes.frames (λ f. ap (λ p. p.0) (state_core sizes f B))

snapshot_core : (sizes : Sizes) (B : List Step) → snapshot_at (base_of sizes B) ≡ snapshot_of sizes B
unfolding base_of safe_epoch
snapshot_core sizes B =
    let safe : safe_in (base_of sizes B) ≡ safe_epoch sizes.slots B = ap (safe_among (current_epoch B)) (epochs_core sizes B) in
    let held : count_by is_some (base_of sizes B).slots ≡ count_by is_some (slot_epochs sizes.slots B) = sym (some_told (λ (slot : Slot). slot.epoch) (base_of sizes B).slots) ∙ ap (count_by is_some) (epochs_core sizes B) in
    let states = states_core sizes B in
    cc

-- all quantities
pub snapshot_is : (h : History) (A : List Step) → Follows h A → snapshot_at (base_after h.base h.steps) ≡ snapshot_of h.base.sizes (A ++ h.steps)
snapshot_is h A f = ap snapshot_at (present_is h A f) ∙ snapshot_core h.base.sizes (A ++ h.steps)
