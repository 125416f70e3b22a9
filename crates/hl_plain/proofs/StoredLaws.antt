-- The actions that steps store, one after another, as far as a list is read.
use Rattle.std.proofs.Common.{◌≡◌, ℕ, suc, ◌+◌, ◌-◌, ◌<◌, ◌≤◌, Bool, true, false, cond, not, if◌then◌else◌, min, max, List, [], ◌∷◌, ◌++◌, length, take, drop, get_or, filter, refl, sym, ap, ◌∙◌, arith, append-nil, append_assoc, length-append, length-take, length-drop, drop-cons}
use Rattle.std.specs.List.{count_by}
use Rattle.std.proofs.lemmas.List.{take_all, take-append-drop, take_more, get_or_at, get_or-append_right, get_or_append_left, get_or-take, get_or_default, drop-append-le}
use Rattle.hl_model.specs.declared.action.Kind.{Kind}
use Rattle.hl_model.specs.declared.action.Waiting.{Waiting}
use Rattle.hl_model.specs.declared.step.Step.{Step}
use Rattle.hl_model.specs.declared.step.Step.TheVariants.{Bump, Settle, Close}
use Rattle.hl_model.specs.Lists.{gather, gather_after, greatest}
use Rattle.hl_model.specs.Actions.{stores, takes, is_finished}
use Rattle.hl_model.specs.Bases.{Base}
use Rattle.hl_model.specs.AfterActions.{stored_by, stored_after, waiting_after, ever_taken_after, done_greatest_after}
use Rattle.hl_model.proofs.ListLaws.{by_pushing, count_by-push, gather-push, greatest-push}
use Rattle.std.proofs.lemmas.List.Elements.{filter-append}

one_each : (b : Base) (L : List Step) (s : Step) → length (stored_by b L s) ≡ cond (stores s) 1 0
one_each b L (Bump tag) = refl
one_each b L Settle = refl
one_each b L Close = refl
one_each b L s = refl

pub gather-nil : {X Y : Type 0} (f : List X → X → List Y) → gather f [] ≡ []
unfolding gather gather_after
gather-nil f = refl

-- an action for each step that stores one
pub stored_count : (b : Base) (L : List Step) → length (gather (stored_by b) L) ≡ count_by stores L
stored_count b = by_pushing (λ L. length (gather (stored_by b) L) ≡ count_by stores L) (ap length (gather-nil (stored_by b)))
    (λ L s before. omega (arith, before, ap length (gather-push (stored_by b) L s), length-append (gather (stored_by b) L) (stored_by b L s), one_each b L s, count_by-push stores L s))

pub stored_length : (b : Base) (L : List Step) → length (stored_after b L) ≡ length b.waiting + count_by stores L
unfolding stored_after
stored_length b L = omega (arith, length-append b.waiting (gather (stored_by b) L), stored_count b L)

-- one step more stores its action or none
pub stores-next : (L : List Step) (k : ℕ) (d : Step) → k < length L → count_by stores (take (k + 1) L) ≡ count_by stores (take k L) + cond (stores (get_or L k d)) 1 0
stores-next L k d h = ap (count_by stores) (take_more L k d h) ∙ count_by-push stores (take k L) (get_or L k d)

-- by at most one
pub stores-most : (L : List Step) (k : ℕ) (d : Step) → cond {A = ℕ} (stores (get_or L k d)) 1 0 ≤ 1
stores-most L k d = by_test (stores (get_or L k d))
  where
    by_test : (b : Bool) → cond {A = ℕ} b 1 0 ≤ 1
    by_test true = omega arith
    by_test false = omega arith

-- by none where it stores none
pub stored-none : (b : Base) (L : List Step) (k : ℕ) (d : Step) → [] ≡ stored_by b (take k L) (get_or L k d) → cond {A = ℕ} (stores (get_or L k d)) 1 0 ≡ 0
stored-none b L k d is = sym (one_each b (take k L) (get_or L k d)) ∙ sym (ap length is)

gather_after-append : {X Y : Type 0} (f : List X → X → List Y) (before xs ys : List X) → gather_after f before (xs ++ ys) ≡ gather_after f before xs ++ gather_after f (before ++ xs) ys
unfolding gather_after
gather_after-append f before [] ys = ap (λ l. gather_after f l ys) (sym (append-nil before))
gather_after-append f before (x ∷ xs) ys =
    ap (λ l. f before x ++ l) (gather_after-append f (before ++ x ∷ []) xs ys ∙ ap (λ l. gather_after f (before ++ x ∷ []) xs ++ gather_after f l ys) (append_assoc before (x ∷ []) xs))
    ∙ sym (append_assoc (f before x) (gather_after f (before ++ x ∷ []) xs) (gather_after f (before ++ x ∷ xs) ys))

gather_split : {X Y : Type 0} (f : List X → X → List Y) (front : List X) (x : X) (rest : List X) → gather_after f [] (front ++ x ∷ rest) ≡ gather_after f [] front ++ (f front x ++ gather_after f (front ++ x ∷ []) rest)
unfolding gather_after
gather_split f front x rest = gather_after-append f [] front (x ∷ rest)

-- what the k-th element gives is behind what those before it give
gather-at : {X Y : Type 0} (f : List X → X → List Y) (xs : List X) (k n : ℕ) (d : X) (y e : Y) → k < length xs → y ∷ [] ≡ f (take k xs) (get_or xs k d) → length (gather f (take k xs)) ≡ n → get_or (gather f xs) n e ≡ y
unfolding gather
gather-at f xs k n d y e h is long =
    ap (λ l. get_or (gather_after f [] l) n e) (sym (take-append-drop k xs) ∙ ap (λ l. take k xs ++ l) (drop-cons xs k d h))
    ∙ ap (λ l. get_or l n e) (gather_split f (take k xs) (get_or xs k d) (drop (suc k) xs)
    ∙ ap (λ l. gather_after f [] (take k xs) ++ (l ++ gather_after f (take k xs ++ get_or xs k d ∷ []) (drop (suc k) xs))) (sym is))
    ∙ get_or_at (gather_after f [] (take k xs)) y (gather_after f (take k xs ++ get_or xs k d ∷ []) (drop (suc k) xs)) e n long

-- the action of a step that stores one, behind as many as the steps before it store
pub stored-hit : (b : Base) (L : List Step) (k i : ℕ) (d : Step) (w e : Waiting) → k < length L → w ∷ [] ≡ stored_by b (take k L) (get_or L k d) → length b.waiting ≤ i → count_by stores (take k L) ≡ i - length b.waiting → get_or (stored_after b L) i e ≡ w
unfolding stored_after
stored-hit b L k i d w e h is le count =
    get_or-append_right b.waiting (gather (stored_by b) L) (length b.waiting) i e refl le
    ∙ gather-at (stored_by b) L k (i - length b.waiting) d w e h is (stored_count b (take k L) ∙ count)

-- one that was pending in the base
pub stored-front : (b : Base) (L : List Step) (i : ℕ) (d e : Waiting) → i < length b.waiting → get_or b.waiting i d ≡ get_or (stored_after b L) i e
unfolding stored_after
stored-front b L i d e h = get_or_default b.waiting i d e h ∙ sym (get_or_append_left b.waiting (gather (stored_by b) L) e i h)

pub ever_taken_length : (b : Base) (L : List Step) → length (ever_taken_after b L) ≡ length b.taken + min (takes L) (length (stored_after b L))
unfolding ever_taken_after
ever_taken_length b L = omega (arith, length-append b.taken (take (takes L) (stored_after b L)), length-take (takes L) (stored_after b L))

pub ever_taken-front : (b : Base) (L : List Step) (i : ℕ) (d e : Waiting) → i < length b.taken → get_or b.taken i d ≡ get_or (ever_taken_after b L) i e
unfolding ever_taken_after
ever_taken-front b L i d e h = get_or_default b.taken i d e h ∙ sym (get_or_append_left b.taken (take (takes L) (stored_after b L)) e i h)

pub ever_taken-behind : (b : Base) (L : List Step) (i : ℕ) (e : Waiting) → length b.taken ≤ i → i < length (ever_taken_after b L) → get_or (ever_taken_after b L) i e ≡ get_or (stored_after b L) (i - length b.taken) e
unfolding ever_taken_after
ever_taken-behind b L i e le h =
    get_or-append_right b.taken (take (takes L) (stored_after b L)) (length b.taken) i e refl le
    ∙ get_or-take (takes L) (stored_after b L) (i - length b.taken) e (omega (arith, h, le, length-append b.taken (take (takes L) (stored_after b L)), length-take (takes L) (stored_after b L)))

-- the pending actions, one more being read
pub waiting-next : (b : Base) (L : List Step) (i : ℕ) (w : Waiting) → takes L ≤ i → i < length (stored_after b L) → ((e : Waiting) → w ≡ get_or (stored_after b L) i e) → drop (takes L) (take (i + 1) (stored_after b L)) ≡ drop (takes L) (take i (stored_after b L)) ++ w ∷ []
waiting-next b L i w le h is =
    ap (drop (takes L)) (take_more (stored_after b L) i w h ∙ ap (λ x. take i (stored_after b L) ++ x ∷ []) (sym (is w)))
    ∙ drop-append-le (takes L) (take i (stored_after b L)) (w ∷ []) (omega (arith, le, h, length-take i (stored_after b L)))

-- a beginning leaves no more pending
pub waiting-most : (b : Base) (L : List Step) (i : ℕ) → length (drop (takes L) (take i (stored_after b L))) ≤ length (waiting_after b L)
unfolding waiting_after
waiting-most b L i = omega (arith, length-drop (takes L) (take i (stored_after b L)), length-drop (takes L) (stored_after b L), length-take i (stored_after b L))

-- an action isn't done since
abbrev pub is_undone : List Step → Waiting → Bool
is_undone L w = not (is_finished w.ticket L)

-- the address that an action stored, where it is done since; else 0
abbrev pub given_by : (Kind → ℕ) → List Step → Waiting → ℕ
given_by stored L w = if is_finished w.ticket L then stored w.kind else 0

filter-next : (p : Waiting → Bool) (ws : List Waiting) (i : ℕ) (w : Waiting) → i < length ws → ((e : Waiting) → w ≡ get_or ws i e) → filter p (take (i + 1) ws) ≡ filter p (take i ws) ++ filter p (w ∷ [])
filter-next p ws i w h is =
    ap (filter p) (take_more ws i w h ∙ ap (λ x. take i ws ++ x ∷ []) (sym (is w))) ∙ filter-append p (take i ws) (w ∷ [])

-- the actions that aren't done, one more being read that isn't
pub undone-next : (L : List Step) (ws : List Waiting) (i : ℕ) (w : Waiting) → i < length ws → ((e : Waiting) → w ≡ get_or ws i e) → is_finished w.ticket L ≡ false → filter (is_undone L) (take (i + 1) ws) ≡ filter (is_undone L) (take i ws) ++ w ∷ []
undone-next L ws i w h is left = filter-next (is_undone L) ws i w h is ∙ ap (λ b. filter (is_undone L) (take i ws) ++ cond (not b) (w ∷ []) []) left

-- or that is
pub done-next : (L : List Step) (ws : List Waiting) (i : ℕ) (w : Waiting) → i < length ws → ((e : Waiting) → w ≡ get_or ws i e) → is_finished w.ticket L ≡ true → filter (is_undone L) (take (i + 1) ws) ≡ filter (is_undone L) (take i ws)
done-next L ws i w h is done =
    filter-next (is_undone L) ws i w h is ∙ ap (λ b. filter (is_undone L) (take i ws) ++ cond (not b) (w ∷ []) []) done ∙ append-nil (filter (is_undone L) (take i ws))

-- of a beginning no more pass
pub filter-most : (p : Waiting → Bool) (ws : List Waiting) (i : ℕ) → length (filter p (take i ws)) ≤ length (filter p ws)
filter-most p ws i =
    omega (arith, ap (λ l. length (filter p l)) (take-append-drop i ws), ap length (filter-append p (take i ws) (drop i ws)), length-append (filter p (take i ws)) (filter p (drop i ws)))

greatest-next : (f : Waiting → ℕ) (ws : List Waiting) (i : ℕ) (w : Waiting) → i < length ws → ((e : Waiting) → w ≡ get_or ws i e) → greatest f (take (i + 1) ws) ≡ max (greatest f (take i ws)) (f w)
greatest-next f ws i w h is =
    ap (greatest f) (take_more ws i w h ∙ ap (λ x. take i ws ++ x ∷ []) (sym (is w))) ∙ greatest-push f (take i ws) w

-- the greatest of what they give, one more being read that is done
pub given-done : (stored : Kind → ℕ) (L : List Step) (ws : List Waiting) (i : ℕ) (w : Waiting) → i < length ws → ((e : Waiting) → w ≡ get_or ws i e) → is_finished w.ticket L ≡ true → greatest (given_by stored L) (take (i + 1) ws) ≡ max (greatest (given_by stored L) (take i ws)) (stored w.kind)
given-done stored L ws i w h is done =
    greatest-next (given_by stored L) ws i w h is ∙ ap (λ b. max (greatest (given_by stored L) (take i ws)) (cond b (stored w.kind) 0)) done

-- or that isn't
pub given-undone : (stored : Kind → ℕ) (L : List Step) (ws : List Waiting) (i : ℕ) (w : Waiting) → i < length ws → ((e : Waiting) → w ≡ get_or ws i e) → is_finished w.ticket L ≡ false → greatest (given_by stored L) (take (i + 1) ws) ≡ greatest (given_by stored L) (take i ws)
given-undone stored L ws i w h is left =
    greatest-next (given_by stored L) ws i w h is ∙ ap (λ b. max (greatest (given_by stored L) (take i ws)) (cond b (stored w.kind) 0)) left ∙ omega arith

pub given-none : (f : Waiting → ℕ) (ws : List Waiting) → greatest f (take 0 ws) ≡ 0
unfolding greatest
given-none f ws = refl

-- all being read
pub given-all : (stored : Kind → ℕ) (b : Base) (L : List Step) (i most : ℕ) → length (ever_taken_after b L) ≤ i → most ≡ greatest (given_by stored L) (take i (ever_taken_after b L)) → most ≡ done_greatest_after stored b L
unfolding done_greatest_after
given-all stored b L i most all is = is ∙ ap (greatest (given_by stored L)) (take_all i (ever_taken_after b L) all)
