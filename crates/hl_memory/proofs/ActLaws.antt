-- Acts and their touches: what one is tells of the other.
use Rattle.std.proofs.Common.{subst, ◌≤◌, ◌≡◌, ℕ, suc, ◌==◌, ◌⊎◌, Bool, true, false, List, [], ◌∷◌, ◌++◌, length, map, Some, None, slice_get, refl, ap, sym, ◌∙◌, inl, inr, ⊎_elim, length-append}
use Rattle.std.specs.Prelude.{if◌then◌else◌}
use Rattle.std.specs.List.{AllByRecursion as Every}
use Rattle.std.proofs.lemmas.Bool.{eq-eqb, eqb-true, ne_eqb}
use Rattle.hl_model.specs.declared.step.Step.{Step}
use Rattle.hl_model.specs.Sizes.{Sizes}
use Rattle.hl_history.specs.declared.view.Entry.{Entry}
use Rattle.hl_history.specs.Lists.{left_by, IsOf, IsOneList}
use Rattle.hl_words.specs.declared.view.Extent.{Extent}
use Rattle.hl_words.specs.declared.view.Touch.{Touch}
use Rattle.hl_words.specs.declared.view.Touch.TheVariants.{Stored, Changed, Called, Looked}
use Rattle.hl_words.specs.Rule.{last_store, left_by as leaves_by, TouchBy, by_rider, held, touches_of, IsSerial}
use Rattle.hl_words.specs.States.{RiderState, AreTied}
use Rattle.hl_words.proofs.CallOrder.{IsUpTo, met_all}
use Rattle.hl_words.proofs.Cut.{every_at}
use Rattle.hl_words.proofs.Lawful.{Puts, Passes, puts_or_passes, last_either}
use Rattle.hl_words.proofs.Orders.{own_more}
use Rattle.hl_words.proofs.PastProofs.{serial_end}
use Rattle.hl_keeper.specs.Passes.{cell_at}
use Rattle.hl_images.proofs.PlaceLaws.{every_in}
use Rattle.hl_images.proofs.WordLaws.{calls_at}
use Rattle.hl_memory.specs.Acts.{in_cell, in_cells, IsPut}

-- two lists in their cells
pub cells_both : (sizes : Sizes) (xs ys : List TouchBy) → in_cells sizes (xs ++ ys) ≡ in_cells sizes xs ++ in_cells sizes ys
cells_both sizes [] ys = refl
cells_both sizes (t ∷ xs) ys = ap (λ (l : List TouchBy). by_rider t.rider (in_cell sizes t.touch) ∷ l) (cells_both sizes xs ys)

pub acts_both : (sizes : Sizes) (xs ys : List Touch) → map (in_cell sizes) (xs ++ ys) ≡ map (in_cell sizes) xs ++ map (in_cell sizes) ys
acts_both sizes [] ys = refl
acts_both sizes (t ∷ xs) ys = ap (λ (l : List Touch). in_cell sizes t ∷ l) (acts_both sizes xs ys)

pub acts_long : (sizes : Sizes) (xs : List Touch) → length (map (in_cell sizes) xs) ≡ length xs
acts_long sizes [] = refl
acts_long sizes (t ∷ xs) = ap suc (acts_long sizes xs)

-- a rider's touches where each is changed in one way
pub mapped_own : (f : Touch → Touch) (i : ℕ) (xs : List TouchBy) → touches_of i (map (λ t. by_rider t.rider (f t.touch)) xs) ≡ map f (touches_of i xs)
mapped_own f i [] = refl
mapped_own f i (t ∷ xs) = by (t.rider == i) (mapped_own f i xs)
  where
    by : (b : Bool) → touches_of i (map (λ t. by_rider t.rider (f t.touch)) xs) ≡ map f (touches_of i xs)
        → (if b then f t.touch ∷ touches_of i (map (λ t. by_rider t.rider (f t.touch)) xs) else touches_of i (map (λ t. by_rider t.rider (f t.touch)) xs)) ≡ map f (if b then t.touch ∷ touches_of i xs else touches_of i xs)
    by true e = ap (λ (l : List Touch). f t.touch ∷ l) e
    by false e = e

pub own_cells : (sizes : Sizes) (i : ℕ) (xs : List TouchBy) → touches_of i (in_cells sizes xs) ≡ map (in_cell sizes) (touches_of i xs)
own_cells sizes i xs = mapped_own (in_cell sizes) i xs

-- calls are tied to acts as to touches
pub tied_acts : (sizes : Sizes) (acts : List Touch) (calls : List Entry) → AreTied (map (in_cell sizes) acts) calls → AreTied acts calls
tied_acts sizes [] [] h = tt
tied_acts sizes [] (call ∷ calls) h = absurd h
tied_acts sizes (Called met left ∷ acts) [] h = absurd h
tied_acts sizes (Called met left ∷ acts) (call ∷ calls) h = (h.0, h.1, tied_acts sizes acts calls h.2)
tied_acts sizes (_ ∷ acts) calls h = tied_acts sizes acts calls h

-- the record of a call among touches
pub call_at : (P : Entry → Type 0) (later : List Touch) (met left : Extent) (past : List Touch) (calls : List Entry) → AreTied (later ++ Called met left ∷ past) calls → Every P calls → (e : Entry) × (met.steps ≡ length e.before) × (left.steps ≡ length (left_by e)) × P e
call_at P [] met left past [] h e = absurd h
call_at P [] met left past (call ∷ calls) h e = (call, h.0, h.1 ∙ sym (length-append call.before call.steps), e.0)
call_at P (Called m l ∷ later) met left past [] h e = absurd h
call_at P (Called m l ∷ later) met left past (call ∷ calls) h e = call_at P later met left past calls h.2 e.1
call_at P (_ ∷ later) met left past calls h e = call_at P later met left past calls h e

-- a rider's calls are of the one list, and its touches are tied to them
pub of_one_list : (whole : List Step) (riders : List RiderState) → IsOneList whole (map (λ (q : RiderState). q.calls) riders) → (i : ℕ) (r : RiderState) → slice_get riders i ≡ Some r → IsOf whole r.calls
of_one_list whole riders one i r at = every_at (IsOf whole) (map (λ (q : RiderState). q.calls) riders) one.each i r.calls (calls_at riders i r at)

pub tied_of : (riders : List RiderState) → Every (λ (q : RiderState). AreTied q.view.touches q.calls) riders → (i : ℕ) (r : RiderState) → slice_get riders i ≡ Some r → AreTied r.view.touches r.calls
tied_of riders ties i r at = every_at (λ (q : RiderState). AreTied q.view.touches q.calls) riders ties i r at

-- of two calls in the order the upper one met what the lower one left
pub lower : (order front : List TouchBy) (k : ℕ) (met left : Extent) (before mid : List TouchBy) (k2 : ℕ) (met2 left2 : Extent) (rest : List TouchBy) → IsSerial order → order ≡ front ++ by_rider k (Called met left) ∷ before → before ≡ mid ++ by_rider k2 (Called met2 left2) ∷ rest → left2.steps ≤ met.steps
lower order front k met left before mid k2 met2 left2 rest serial is inside =
    let most = met_all k met left before (serial_end front (by_rider k (Called met left) ∷ before) (subst IsSerial is serial)) in
    (every_in (λ (t : TouchBy). IsUpTo met t.touch) mid (by_rider k2 (Called met2 left2)) rest (subst (Every (λ (t : TouchBy). IsUpTo met t.touch)) inside most)).0

-- an act that stores at an address leaves its value there, and another leaves what was there
put_leaves : (a v w : ℕ) (t : Touch) → IsPut t a v → leaves_by a t w ≡ v
put_leaves a v w t (inl e) = ap (λ (u : Touch). leaves_by a u w) e ∙ ap (λ (b : Bool). if b then v else w) (eq-eqb a a refl)
put_leaves a v w t (inr c) = ap (λ (u : Touch). leaves_by a u w) c.1 ∙ ap (λ (b : Bool). if b then v else w) (eq-eqb a a refl)

put_last : (a v : ℕ) (t : Touch) (l : List Touch) → IsPut t a v → last_store a (t ∷ l) ≡ Some v
put_last a v t l (inl e) = ap (λ (u : Touch). last_store a (u ∷ l)) e ∙ ap (λ (b : Bool). if b then Some v else last_store a l) (eq-eqb a a refl)
put_last a v t l (inr c) = ap (λ (u : Touch). last_store a (u ∷ l)) c.1 ∙ ap (λ (b : Bool). if b then Some v else last_store a l) (eq-eqb a a refl)

pub put_is : (a : ℕ) (t : Touch) → Puts a t → (v : ℕ) × IsPut t a v
put_is a (Stored d v) p = by (d == a) refl (p.last [])
  where
    by : (b : Bool) → (d == a) ≡ b → (if b then Some v else None) ≡ Some p.value → (w : ℕ) × IsPut (Stored d v) a w
    by true test e = (v, inl (ap (λ (z : ℕ). Stored z v) (eqb-true d a test)))
    by false test e = absurd (cc e)
put_is a (Changed d f v) p = by (d == a) refl (p.last [])
  where
    by : (b : Bool) → (d == a) ≡ b → (if b then Some v else None) ≡ Some p.value → (w : ℕ) × IsPut (Changed d f v) a w
    by true test e = (v, inr (f, ap (λ (z : ℕ). Changed z f v) (eqb-true d a test)))
    by false test e = absurd (cc e)
put_is a _ p = let no : None ≡ Some p.value = p.last [] in absurd (cc no)

-- the newest store at an address
pub record HasAt (a : ℕ) (history : List TouchBy) : Type 0 where
  pub front : List TouchBy
  pub rider : ℕ
  pub act : Touch
  pub base : List TouchBy
  pub whole : history ≡ front ++ by_rider rider act ∷ base
  pub value : ℕ
  pub puts : IsPut act a value
  pub held_is : held a history ≡ value
  pub last_is : last_store a (touches_of rider history) ≡ Some value

abbrev pub HasNoneAt : ℕ → List TouchBy → Type 0
HasNoneAt a history = (held a history ≡ 0) × ((k : ℕ) → last_store a (touches_of k history) ≡ None)

pub has_at : (a : ℕ) (history : List TouchBy) → HasNoneAt a history ⊎ HasAt a history
has_at a [] = inl (refl, λ k. refl)
has_at a (t ∷ history) = ⊎_elim puts (passes (has_at a history)) (puts_or_passes a t.touch)
  where
    puts : Puts a t.touch → HasNoneAt a (t ∷ history) ⊎ HasAt a (t ∷ history)
    puts p =
        let is = put_is a t.touch p in
        inr (record {
          front = [];
          rider = t.rider;
          act = t.touch;
          base = history;
          whole = refl;
          value = is.0;
          puts = is.1;
          held_is = put_leaves a is.0 (held a history) t.touch is.1;
          last_is = ap (last_store a) (own_more t.rider t.touch history) ∙ put_last a is.0 t.touch (touches_of t.rider history) is.1;
        })

    passes : HasNoneAt a history ⊎ HasAt a history → Passes a t.touch → HasNoneAt a (t ∷ history) ⊎ HasAt a (t ∷ history)
    passes sooner p =
        let still : (k : ℕ) → last_store a (touches_of k (t ∷ history)) ≡ last_store a (touches_of k history) = λ k. last_either a t.touch (touches_of k history) (p.last (touches_of k history)) (t.rider == k) in
        ⊎_elim
        (λ (none : HasNoneAt a history). inl (p.leaves (held a history) ∙ none.0, λ k. still k ∙ none.1 k))
        (λ (h : HasAt a history).
        inr (record {
          front = t ∷ h.front;
          rider = h.rider;
          act = h.act;
          base = h.base;
          whole = ap (λ (l : List TouchBy). t ∷ l) h.whole;
          value = h.value;
          puts = h.puts;
          held_is = p.leaves (held a history) ∙ h.held_is;
          last_is = still h.rider ∙ h.last_is;
        }))
        sooner

-- the newest store into an address's cell
pub record HasPut (sizes : Sizes) (a : ℕ) (history : List TouchBy) : Type 0 where
  pub front : List TouchBy
  pub rider : ℕ
  pub act : Touch
  pub base : List TouchBy
  pub whole : history ≡ front ++ by_rider rider act ∷ base
  pub none : (k : ℕ) → last_store (cell_at sizes a) (touches_of k (in_cells sizes front)) ≡ None
  pub address : ℕ
  pub value : ℕ
  pub puts : IsPut act address value
  pub cell_is : cell_at sizes address ≡ cell_at sizes a
  pub cell_holds : held (cell_at sizes a) (in_cells sizes history) ≡ value
  pub memory : held a history ≡ (if address == a then value else held a base)

abbrev pub PutOrNone : Sizes → ℕ → List TouchBy → Type 0
PutOrNone sizes a history = ((held (cell_at sizes a) (in_cells sizes history) ≡ 0) × (held a history ≡ 0)) ⊎ HasPut sizes a history

pub newest_put : (sizes : Sizes) (a : ℕ) (history : List TouchBy) → PutOrNone sizes a history
newest_put sizes a [] = inl (refl, refl)
newest_put sizes a (t ∷ history) = by t.touch refl (newest_put sizes a history)
  where
    still : ((w : ℕ) → leaves_by (cell_at sizes a) (in_cell sizes t.touch) w ≡ w) → ((w : ℕ) → leaves_by a t.touch w ≡ w) → ((l : List Touch) → last_store (cell_at sizes a) (in_cell sizes t.touch ∷ l) ≡ last_store (cell_at sizes a) l) → PutOrNone sizes a history → PutOrNone sizes a (t ∷ history)
    still cell own last (inl none) = inl (cell (held (cell_at sizes a) (in_cells sizes history)) ∙ none.0, own (held a history) ∙ none.1)
    still cell own last (inr h) = inr (record {
      front = t ∷ h.front;
      rider = h.rider;
      act = h.act;
      base = h.base;
      whole = ap (λ (l : List TouchBy). t ∷ l) h.whole;
      none = λ k. last_either (cell_at sizes a) (in_cell sizes t.touch) (touches_of k (in_cells sizes h.front)) (last (touches_of k (in_cells sizes h.front))) (t.rider == k) ∙ h.none k;
      address = h.address;
      value = h.value;
      puts = h.puts;
      cell_is = h.cell_is;
      cell_holds = cell (held (cell_at sizes a) (in_cells sizes history)) ∙ h.cell_holds;
      memory = own (held a history) ∙ h.memory;
    })

    store : (d v : ℕ) → IsPut t.touch d v → ((w : ℕ) → leaves_by (cell_at sizes a) (in_cell sizes t.touch) w ≡ (if cell_at sizes d == (cell_at sizes a) then v else w)) → ((w : ℕ) → leaves_by a t.touch w ≡ (if d == a then v else w))
        → ((l : List Touch) → last_store (cell_at sizes a) (in_cell sizes t.touch ∷ l) ≡ (if cell_at sizes d == (cell_at sizes a) then Some v else last_store (cell_at sizes a) l)) → PutOrNone sizes a history → (b : Bool) → (cell_at sizes d == (cell_at sizes a)) ≡ b → PutOrNone sizes a (t ∷ history)
    store d v put cell own last sooner true test = inr (record {
      front = [];
      rider = t.rider;
      act = t.touch;
      base = history;
      whole = refl;
      none = λ k. refl;
      address = d;
      value = v;
      puts = put;
      cell_is = eqb-true (cell_at sizes d) (cell_at sizes a) test;
      cell_holds = cell (held (cell_at sizes a) (in_cells sizes history)) ∙ ap (λ (b : Bool). if b then v else held (cell_at sizes a) (in_cells sizes history)) test;
      memory = own (held a history);
    })
    store d v put cell own last sooner false test =
        let apart : (d == a) ≡ false = ne_eqb d a (λ same. let no : false ≡ true = sym test ∙ eq-eqb (cell_at sizes d) (cell_at sizes a) (ap (cell_at sizes) same) in absurd (cc no)) in
        still (λ w. cell w ∙ ap (λ (b : Bool). if b then v else w) test) (λ w. own w ∙ ap (λ (b : Bool). if b then v else w) apart) (λ l. last l ∙ ap (λ (b : Bool). if b then Some v else last_store (cell_at sizes a) l) test) sooner

    by : (u : Touch) → t.touch ≡ u → PutOrNone sizes a history → PutOrNone sizes a (t ∷ history)
    by (Stored d v) e sooner =
        store d v (inl e) (λ w. ap (λ (u : Touch). leaves_by (cell_at sizes a) (in_cell sizes u) w) e) (λ w. ap (λ (u : Touch). leaves_by a u w) e) (λ l. ap (λ (u : Touch). last_store (cell_at sizes a) (in_cell sizes u ∷ l)) e) sooner (cell_at sizes d == (cell_at sizes a)) refl
    by (Changed d f v) e sooner =
        store d v (inr (f, e)) (λ w. ap (λ (u : Touch). leaves_by (cell_at sizes a) (in_cell sizes u) w) e) (λ w. ap (λ (u : Touch). leaves_by a u w) e) (λ l. ap (λ (u : Touch). last_store (cell_at sizes a) (in_cell sizes u ∷ l)) e) sooner (cell_at sizes d == (cell_at sizes a)) refl
    by (Looked w x) e sooner = still (λ y. ap (λ (u : Touch). leaves_by (cell_at sizes a) (in_cell sizes u) y) e) (λ y. ap (λ (u : Touch). leaves_by a u y) e) (λ l. ap (λ (u : Touch). last_store (cell_at sizes a) (in_cell sizes u ∷ l)) e) sooner
    by _ e sooner = still (λ w. ap (λ (u : Touch). leaves_by (cell_at sizes a) (in_cell sizes u) w) e) (λ w. ap (λ (u : Touch). leaves_by a u w) e) (λ l. ap (λ (u : Touch). last_store (cell_at sizes a) (in_cell sizes u ∷ l)) e) sooner
