-- Where an engine stands after a step of each kind, and that it answers as the definitions do.
use Rattle.std.proofs.Common.{◌≡◌, ℕ, ◌+◌, ◌*◌, ◌%◌, ◌<◌, ◌≤◌, Bool, true, false, cond, is_some, List, [], ◌∷◌, ◌++◌, length, get_or, map, set, take, drop, remove, replicate, refl, sym, ap, ap₂, ◌∙◌, subst, arith}
use Rattle.std.specs.Prelude.{Option, Some, None, Result, Ok, Err, option_map, option_and_then, IfSome, IsSomeAnd}
use Rattle.std.specs.List.{find, position_or_len}
use Rattle.std.proofs.lemmas.Nat.{mod_below}
use Rattle.hl_model.specs.declared.action.Kind.{Kind}
use Rattle.hl_model.specs.declared.action.Kind.TheVariants.{User, Settle as Settling, Close as Closing}
use Rattle.hl_model.specs.declared.fault.Fault.{Fault}
use Rattle.hl_model.specs.declared.step.Reply.{Reply}
use Rattle.hl_model.specs.declared.step.Reply.TheVariants.{Taken, Answer, Written, Readable, Value}
use Rattle.hl_model.specs.declared.step.Step.{Step}
use Rattle.hl_model.specs.declared.step.Step.TheVariants.{Take, Done, Write, Read, CleanDone, Allocate}
use Rattle.hl_model.specs.Sizes.{Sizes}
use Rattle.hl_model.specs.Epochs.{safe_epoch}
use Rattle.hl_model.specs.Actions.{pending, front, is_take, finishes, action_at}
use Rattle.hl_model.specs.Words.{word, page_words}
use Rattle.hl_model.specs.declared.frame.FrameState.{FrameState}
use Rattle.hl_model.specs.Frames.{last_entered, frame_of}
use Rattle.hl_model.specs.Replies.{fault_of, answer_of, word_reply_of, done_answer, kind_or_job_0, unless_fault, extended, IsAccepted}
use Rattle.hl_laws.proofs.AcceptedLaws.{extended-none, extended-some}
use Rattle.hl_laws.proofs.ActionLaws.{ticket-front}
use Rattle.hl_laws.proofs.DrainLaws.{done_fault-none}
use Rattle.hl_laws.proofs.RowLaws.{row_at}
use Rattle.hl_laws.proofs.SettledLaws.{action_at-done}
use Rattle.hl_laws.proofs.NoFaultLaws.{unless_ok, unless_err}
use Rattle.hl_epoch.specs.Table.{safe_of}
use Rattle.hl_action.specs.Firings.{FiringRecord}
use Rattle.hl_action.specs.Jobs.{KeptRecord, ReadyRecord}
use Rattle.hl_drain.specs.declared.action.Action.{Action}
use Rattle.hl_drain.specs.declared.action.Action.TheVariants.{User as UserAction, Settle as SettleAction, Close as CloseAction}
use Rattle.hl_drain.specs.Actions.{waiting_of}
use Rattle.hl_model.specs.declared.frame.Held.{Held}
use Rattle.hl_frames.specs.Pages.{Pages}
use Rattle.hl_model.specs.Bases.{marked, held_of}
use Rattle.hl_core.specs.Standing.{State, Stands}
use Rattle.hl_core.specs.Steps.{Stepped, Made, as_reply, CameOut, job_in}
use Rattle.hl_core.proofs.LookStands.{read_ok}
use Rattle.hl_core.proofs.StandLaws.{refused_step}
use Rattle.hl_cells.specs.CellWords.{shown_page, cell_word, cell_words, cell_at}
use Rattle.hl_cells.specs.TakenActions.{Row, Holds, firing_at, fires, tag_of}
use Rattle.hl_cells.specs.Engines.{Whole, EngineStands, IsEngine, Shows, job_tag}
use Rattle.hl_cells.specs.EngineSteps.{Told, Moved, Moves, fired}
use Rattle.hl_cells.proofs.CellLaws.{cells-quiet, cells-allocate, cells-write, cells-clean, cells-read, cells-page, cells-nil, frame_fits, cell_words-at, length-cell_words}
use Rattle.hl_cells.proofs.ShownPages.{unless_freed, shown-is, shown-frame}
use Rattle.hl_cells.proofs.HoldLaws.{Found, holds-nil, holds-quiet, holds-take, holds-fits, holds-found, holds-done}
use Rattle.hl_cells.proofs.ToldLaws.{Accepted, is_told_as_is, told_same, told_refused}

-- a step that leaves all cells and all held actions
abbrev pub is_quiet : Step → Bool
is_quiet Take = false
is_quiet (Done ticket) = false
is_quiet (Write t a v) = false
is_quiet (Read t a) = false
is_quiet (CleanDone page) = false
is_quiet _ = true

quiet_cells : (sizes : Sizes) (A : List Step) (s : Step) → is_quiet s ≡ true → 0 < sizes.page_size → 0 < sizes.frames → IsAccepted sizes A → fault_of sizes A s ≡ None → cell_words sizes (A ++ s ∷ []) ≡ cell_words sizes A
quiet_cells sizes A (Allocate t n) e page_size frames acc h = cells-allocate sizes A t n page_size frames acc h
quiet_cells sizes A (Write t a v) e page_size frames acc h = cc
quiet_cells sizes A (CleanDone p) e page_size frames acc h = cc
quiet_cells sizes A s e page_size frames acc h = cells-quiet sizes A s refl (λ p. refl) (λ a. refl)

quiet_takes : (s : Step) → is_quiet s ≡ true → is_take s ≡ false
quiet_takes Take e = cc
quiet_takes s e = refl

quiet_ends : (s : Step) → is_quiet s ≡ true → (c : ℕ) → finishes c s ≡ false
quiet_ends (Done ticket) e c = cc
quiet_ends s e c = refl

quiet_told : (s : Step) → is_quiet s ≡ true → is_told_as_is s ≡ true
quiet_told (Done ticket) e = cc
quiet_told (Read t a) e = cc
quiet_told s e = refl

-- a done is answered with the job's answer, if there is one
abbrev pub answer_or : Option ℕ → Reply → Result Reply Fault
answer_or (Some n) reply = Ok (Answer n)
answer_or None reply = Ok reply

-- a write that answers as the definitions do, as a reply
written_told : (o : Option Fault) (result : Result (Unit {0}) Fault) → result ≡ unless_fault o tt → as_reply (λ _. Written) result ≡ unless_fault o Written
written_told None result h = ap (as_reply (λ _. Written)) h
written_told (Some f) result h = ap (as_reply (λ _. Written)) h

module _ {F : Type 0} where
  -- an engine stands where its parts do
  pub engine_stands : (sizes : Sizes) (core : State (KeptRecord F)) (words : List ℕ) (held : Row F) (B : List Step) → core.sizes ≡ sizes → Stands job_tag core B → words ≡ cell_words sizes B → Holds sizes B held → EngineStands (record { core = core; words = words; held = held }) B
  engine_stands sizes core words held B same st w h = record {
    core_stands = st;
    words_is = w ∙ ap (λ z. cell_words z B) (sym same);
    held_is = subst (λ (z : Sizes). Holds z B held) (sym same) h;
  }

  page_size_some : (engine : Whole F) (A : List Step) → EngineStands engine A → 0 < engine.core.sizes.page_size
  page_size_some engine A st = omega (arith, st.core_stands.in_range.page_size_least)

  frames_some : (engine : Whole F) (A : List Step) → EngineStands engine A → 0 < engine.core.sizes.frames
  frames_some engine A st = omega (arith, st.core_stands.in_range.frames_least)

  -- a refused step: the engine stands where it stood
  pub moved_err : (keeps : ℕ → FiringRecord → ℕ → Type 0) (engine : Whole F) (A : List Step) (s : Step) (core_new : State (KeptRecord F)) (f : Fault) → EngineStands engine A → Stepped job_tag engine.core A s core_new (Err f) → Moved keeps engine A s (record { core = core_new; words = engine.words; held = engine.held }) (Err f)
  moved_err keeps engine A s core_new f st moved =
      let h : fault_of engine.core.sizes A s ≡ Some f = unless_err (fault_of engine.core.sizes A s) f (answer_of engine.core.sizes A (A ++ s ∷ []) s) moved.reply in
      record {
        told = told_refused keeps engine.core.sizes A s f h;
        sizes = moved.sizes;
        standing = subst (λ (B : List Step). EngineStands (record { core = core_new; words = engine.words; held = engine.held }) B) (sym (extended-some engine.core.sizes A s f h))
            (engine_stands engine.core.sizes core_new engine.words engine.held A moved.sizes (subst (λ (B : List Step). Stands job_tag core_new B) (extended-some engine.core.sizes A s f h) moved.standing) st.words_is st.held_is);
      }

  -- an engine stands at some list after a step, as before
  pub stands_after : (keeps : ℕ → FiringRecord → ℕ → Type 0) (engine new : Whole F) (s : Step) (result : Result Reply Fault) → IsEngine engine → Moves keeps engine s new result → IsEngine new
  stands_after keeps engine new s result at m = (extended engine.core.sizes at.0 s, (m at.0 at.1).standing)

  -- an accepted step, told where the cells and the row stand
  moved_accepted : (keeps : ℕ → FiringRecord → ℕ → Type 0) (engine : Whole F) (A : List Step) (s : Step) (core_new : State (KeptRecord F)) (words : List ℕ) (held : Row F) (core_result result : Result Reply Fault) → Stepped job_tag engine.core A s core_new core_result → fault_of engine.core.sizes A s ≡ None → Told keeps (fired engine.core.sizes A s) (word_reply_of engine.core.sizes A s) result → words ≡ cell_words engine.core.sizes (A ++ s ∷ []) → Holds engine.core.sizes (A ++ s ∷ []) held → Moved keeps engine A s (record { core = core_new; words = words; held = held }) result
  moved_accepted keeps engine A s core_new words held core_result result moved h told w holds = record {
    told = told;
    sizes = moved.sizes;
    standing = subst (λ (B : List Step). EngineStands (record { core = core_new; words = words; held = held }) B) (sym (extended-none engine.core.sizes A s h))
        (engine_stands engine.core.sizes core_new words held (A ++ s ∷ []) moved.sizes (subst (λ (B : List Step). Stands job_tag core_new B) (extended-none engine.core.sizes A s h) moved.standing) w holds);
  }

  -- so the engine moves as its core does
  pub moved_quiet : (keeps : ℕ → FiringRecord → ℕ → Type 0) (engine : Whole F) (A : List Step) (s : Step) (core_new : State (KeptRecord F)) (result : Result Reply Fault) → is_quiet s ≡ true → EngineStands engine A → Stepped job_tag engine.core A s core_new result → Moved keeps engine A s (record { core = core_new; words = engine.words; held = engine.held }) result
  moved_quiet keeps engine A s core_new result e st moved = by_fault (fault_of engine.core.sizes A s) refl
    where
      told : Told keeps (fired engine.core.sizes A s) (word_reply_of engine.core.sizes A s) result
      told = told_same keeps engine.core.sizes A s result (quiet_told s e) moved.reply

      by_fault : (o : Option Fault) → fault_of engine.core.sizes A s ≡ o → Moved keeps engine A s (record { core = core_new; words = engine.words; held = engine.held }) result
      by_fault None h = moved_accepted keeps engine A s core_new engine.words engine.held result result moved h told
          (st.words_is ∙ sym (quiet_cells engine.core.sizes A s e (page_size_some engine A st) (frames_some engine A st) st.core_stands.accepted h))
          (holds-quiet engine.core.sizes A s engine.held st.core_stands.accepted (quiet_takes s e) (quiet_ends s e) st.held_is)
      by_fault (Some f) h = record {
        told = told;
        sizes = moved.sizes;
        standing = subst (λ (B : List Step). EngineStands (record { core = core_new; words = engine.words; held = engine.held }) B) (sym (extended-some engine.core.sizes A s f h))
            (engine_stands engine.core.sizes core_new engine.words engine.held A moved.sizes (subst (λ (B : List Step). Stands job_tag core_new B) (extended-some engine.core.sizes A s f h) moved.standing) st.words_is st.held_is);
      }

  -- so at whatever list it stood
  pub quiet_moves : (keeps : ℕ → FiringRecord → ℕ → Type 0) (core core_new : State (KeptRecord F)) (words : List ℕ) (held : Row F) (s : Step) (result : Result Reply Fault) → is_quiet s ≡ true → Made job_tag core s core_new result → Moves keeps (record { core = core; words = words; held = held }) s (record { core = core_new; words = words; held = held }) result
  quiet_moves keeps core core_new words held s result e made A st = moved_quiet keeps (record { core = core; words = words; held = held }) A s core_new result e st (made A st.core_stands)

  -- and it stands at some list
  pub quiet_stands : (keeps : ℕ → FiringRecord → ℕ → Type 0) (core core_new : State (KeptRecord F)) (words : List ℕ) (held : Row F) (s : Step) (result : Result Reply Fault) → is_quiet s ≡ true → IsEngine (record { core = core; words = words; held = held }) → Made job_tag core s core_new result → IsEngine (record { core = core_new; words = words; held = held })
  quiet_stands keeps core core_new words held s result e at made =
      stands_after keeps (record { core = core; words = words; held = held }) (record { core = core_new; words = words; held = held }) s result at (quiet_moves keeps core core_new words held s result e made)

  -- no fault where the core answered
  pub free_of : (engine : Whole F) (A : List Step) (s : Step) (core_new : State (KeptRecord F)) (r : Reply) → Stepped job_tag engine.core A s core_new (Ok r) → (fault_of engine.core.sizes A s ≡ None) × (r ≡ answer_of engine.core.sizes A (A ++ s ∷ []) s)
  free_of engine A s core_new r moved = unless_ok (fault_of engine.core.sizes A s) r (answer_of engine.core.sizes A (A ++ s ∷ []) s) moved.reply

  -- a write sets the cell of its address
  pub moved_write : (keeps : ℕ → FiringRecord → ℕ → Type 0) (engine : Whole F) (A : List Step) (t a v cell : ℕ) (core_new : State (KeptRecord F)) (r : Reply) → EngineStands engine A → Stepped job_tag engine.core A (Write t a v) core_new (Ok r) → cell ≡ cell_at engine.core.sizes a → Moved keeps engine A (Write t a v) (record { core = core_new; words = set engine.words cell v; held = engine.held }) (Ok r)
  moved_write keeps engine A t a v cell core_new r st moved at =
      let h = (free_of engine A (Write t a v) core_new r moved).0 in
      moved_accepted keeps engine A (Write t a v) core_new (set engine.words cell v) engine.held (Ok r) (Ok r) moved h
      (told_same keeps engine.core.sizes A (Write t a v) (Ok r) refl moved.reply)
      (ap₂ (λ ws c. set ws c v) st.words_is at ∙ sym (cells-write engine.core.sizes A t a v (page_size_some engine A st) (frames_some engine A st) st.core_stands.accepted h))
      (holds-quiet engine.core.sizes A (Write t a v) engine.held st.core_stands.accepted refl (λ c. refl) st.held_is)

  -- a clean done zeroes the cells of its page's frame
  pub moved_zeroed : (keeps : ℕ → FiringRecord → ℕ → Type 0) (engine : Whole F) (A : List Step) (p start len : ℕ) (core_new : State (KeptRecord F)) (before words : List ℕ) (r : Reply) → EngineStands engine A → Stepped job_tag engine.core A (CleanDone p) core_new (Ok r) → start ≡ p % engine.core.sizes.frames * engine.core.sizes.page_size → len ≡ engine.core.sizes.page_size → before ≡ engine.words → words ≡ take start before ++ (replicate len 0 ++ drop (start + len) before) → Moved keeps engine A (CleanDone p) (record { core = core_new; words = words; held = engine.held }) (Ok r)
  moved_zeroed keeps engine A p start len core_new before words r st moved s l w zeroed =
      let h = (free_of engine A (CleanDone p) core_new r moved).0 in
      moved_accepted keeps engine A (CleanDone p) core_new words engine.held (Ok r) (Ok r) moved h
      (told_same keeps engine.core.sizes A (CleanDone p) (Ok r) refl moved.reply)
      (zeroed ∙ ap (λ ws. take start ws ++ (replicate len 0 ++ drop (start + len) ws)) (w ∙ st.words_is)
      ∙ ap₂ (λ i n. take i (cell_words engine.core.sizes A) ++ (replicate n 0 ++ drop (i + n) (cell_words engine.core.sizes A))) s l
      ∙ cells-clean engine.core.sizes A p (page_size_some engine A st) (frames_some engine A st) st.core_stands.accepted h)
      (holds-quiet engine.core.sizes A (CleanDone p) engine.held st.core_stands.accepted refl (λ c. refl) st.held_is)

  -- a read is answered with the word
  moved_read : (keeps : ℕ → FiringRecord → ℕ → Type 0) (engine : Whole F) (A : List Step) (t a v : ℕ) (core_new : State (KeptRecord F)) (r : Reply) → EngineStands engine A → Stepped job_tag engine.core A (Read t a) core_new (Ok r) → v ≡ word a A → Moved keeps engine A (Read t a) (record { core = core_new; words = engine.words; held = engine.held }) (Ok (Value v))
  moved_read keeps engine A t a v core_new r st moved is =
      let h = (free_of engine A (Read t a) core_new r moved).0 in
      moved_accepted keeps engine A (Read t a) core_new engine.words engine.held (Ok r) (Ok (Value v)) moved h
      (subst (λ (o : Option Fault). Told keeps None (unless_fault o (Value (word a A))) (Ok (Value v))) (sym h) (ap (λ z. Ok (Value z)) is))
      (st.words_is ∙ sym (cells-quiet engine.core.sizes A (Read t a) refl (λ p. refl) (λ b. refl)))
      (holds-quiet engine.core.sizes A (Read t a) engine.held st.core_stands.accepted refl (λ c. refl) st.held_is)

  -- the tag of a job that is taken
  tag_taken : (action : Action (KeptRecord F)) (ticket : ℕ) → option_map (λ (kept : KeptRecord F). kept.tag) (job_in action) ≡ tag_of (waiting_of job_tag (ticket, action)).kind
  tag_taken (SettleAction x) ticket = refl
  tag_taken (CloseAction x) ticket = refl
  tag_taken (UserAction kept) ticket = refl

  -- what is pending where an action came out
  first_pending : (engine : Whole F) (A : List Step) (core_new : State (KeptRecord F)) (ticket : ℕ) (job : Option (KeptRecord F)) → EngineStands engine A → (out : CameOut job_tag engine.core core_new ticket job) → pending A ≡ waiting_of job_tag (ticket, out.action) ∷ map (waiting_of job_tag) core_new.drain.pending
  first_pending engine A core_new ticket job st out = sym st.core_stands.pending_is ∙ ap (map (waiting_of job_tag)) out.oldest

  -- there is a place for an action that came out
  pub take_fits : (engine : Whole F) (A : List Step) (core_new : State (KeptRecord F)) (ticket : ℕ) (job : Option (KeptRecord F)) → EngineStands engine A → CameOut job_tag engine.core core_new ticket job → length engine.held.actions < engine.held.room
  take_fits engine A core_new ticket job st out =
      holds-fits engine.core.sizes A (waiting_of job_tag (ticket, out.action)) (map (waiting_of job_tag) core_new.drain.pending) engine.held st.core_stands.accepted (first_pending engine A core_new ticket job st out) st.held_is

  -- a take: its action is held with its firing
  pub moved_take : (keeps : ℕ → FiringRecord → ℕ → Type 0) (engine : Whole F) (A : List Step) (core_new : State (KeptRecord F)) (firing : FiringRecord) (job : Option (KeptRecord F)) (origin : ℕ) (held : Row F) → EngineStands engine A → Stepped job_tag engine.core A Take core_new (Ok (Taken firing.ticket)) → firing.safe ≡ safe_of engine.core.table → CameOut job_tag engine.core core_new firing.ticket job → held ≡ record { room = engine.held.room; actions = engine.held.actions ++ record { origin = origin; firing = firing; kept = job } ∷ [] } → Moved keeps engine A Take (record { core = core_new; words = engine.words; held = held }) (Ok (Taken firing.ticket))
  unfolding safe_epoch
  moved_take keeps engine A core_new firing job origin held st moved safe out pushed =
      let h = (free_of engine A Take core_new (Taken firing.ticket) moved).0 in
      let first = first_pending engine A core_new firing.ticket job st out in
      let ticket : firing.ticket ≡ front A = ticket-front A (waiting_of job_tag (firing.ticket, out.action)) (map (waiting_of job_tag) core_new.drain.pending) first in
      let safe_is : firing.safe ≡ safe_epoch engine.core.sizes.slots A = safe ∙ ap safe_of st.core_stands.table_is in
      moved_accepted keeps engine A Take core_new engine.words held (Ok (Taken firing.ticket)) (Ok (Taken firing.ticket)) moved h
      (told_same keeps engine.core.sizes A Take (Ok (Taken firing.ticket)) refl moved.reply)
      (st.words_is ∙ sym (cells-quiet engine.core.sizes A Take refl (λ p. refl) (λ b. refl)))
      (holds-take engine.core.sizes A (waiting_of job_tag (firing.ticket, out.action)) (map (waiting_of job_tag) core_new.drain.pending)
      (record { origin = origin; firing = firing; kept = job }) engine.held held st.core_stands.accepted first
      (ap₂ (λ (t s : ℕ). firing_record t s) ticket safe_is)
      (ap (option_map (λ (kept : KeptRecord F). kept.tag)) out.job_is ∙ tag_taken out.action firing.ticket)
      pushed st.held_is)
    where
      firing_record : ℕ → ℕ → FiringRecord
      firing_record t s = record { ticket = t; safe = s }

  told_by_kind : (keeps : ℕ → FiringRecord → ℕ → Type 0) (firing : FiringRecord) (B : List Step) (kind : Kind) (kept : Option (KeptRecord F)) (answer : Option ℕ) → option_map (λ (k : KeptRecord F). k.tag) kept ≡ tag_of kind → is_some answer ≡ is_some kept → IfSome kept (λ k. IsSomeAnd answer (keeps k.tag firing)) → Told keeps (Some firing) (Ok (done_answer B kind)) (answer_or answer (done_answer B kind))
  told_by_kind keeps firing B (User tag) (Some k) (Some n) t s q = let same : k.tag ≡ tag = cc in (n, refl, subst (λ z. keeps z firing n) same q)
  told_by_kind keeps firing B (User tag) (Some k) None t s q = cc
  told_by_kind keeps firing B (User tag) None answer t s q = cc
  told_by_kind keeps firing B (Settling x) (Some k) answer t s q = cc
  told_by_kind keeps firing B (Settling x) None (Some n) t s q = cc
  told_by_kind keeps firing B (Settling x) None None t s q = refl
  told_by_kind keeps firing B (Closing x) (Some k) answer t s q = cc
  told_by_kind keeps firing B (Closing x) None (Some n) t s q = cc
  told_by_kind keeps firing B (Closing x) None None t s q = refl

  -- a done: its job was run, and is held no longer
  pub moved_done : (keeps : ℕ → FiringRecord → ℕ → Type 0) (engine : Whole F) (A : List Step) (c : ℕ) (core_new : State (KeptRecord F)) (held : Row F) (r : Reply) (answer : Option ℕ) → EngineStands engine A → Stepped job_tag engine.core A (Done c) core_new (Ok r) → is_some answer ≡ is_some (option_and_then (λ (ready : ReadyRecord F). ready.kept) (find (fires c) engine.held.actions)) → IfSome (find (fires c) engine.held.actions) (λ ready. IfSome ready.kept (λ kept. IsSomeAnd answer (keeps kept.tag ready.firing))) → held ≡ record { room = engine.held.room; actions = remove engine.held.actions (position_or_len (fires c) engine.held.actions) } → Moved keeps engine A (Done c) (record { core = core_new; words = engine.words; held = held }) (answer_or answer r)
  moved_done keeps engine A c core_new held r answer st moved answered kept_promise removed =
      moved_accepted keeps engine A (Done c) core_new engine.words held (Ok r) (answer_or answer r) moved h
      (subst (λ (o : Option Fault). Told keeps (firing_at engine.core.sizes c A) (unless_fault o (done_answer B (kind_or_job_0 (action_at c B)))) (answer_or answer r)) (sym h)
      (subst (λ (o : Option FiringRecord). Told keeps o (Ok (done_answer B (kind_or_job_0 (action_at c B)))) (answer_or answer r)) (sym found.fired_as)
      (subst (λ (z : Reply). Told keeps (Some found.ready.firing) (Ok (done_answer B (kind_or_job_0 (action_at c B)))) (answer_or answer z)) (sym (free_of engine A (Done c) core_new r moved).1)
      (subst (λ (k : Kind). Told keeps (Some found.ready.firing) (Ok (done_answer B k)) (answer_or answer (done_answer B k))) (sym kind_is)
      (told_by_kind keeps found.ready.firing B found.waiting.kind found.ready.kept answer found.tag_is
      (answered ∙ ap (λ (o : Option (ReadyRecord F)). is_some (option_and_then (λ (ready : ReadyRecord F). ready.kept) o)) found.held_as)
      (subst (λ (o : Option (ReadyRecord F)). IfSome o (λ ready. IfSome ready.kept (λ kept. IsSomeAnd answer (keeps kept.tag ready.firing)))) found.held_as kept_promise))))))
      (st.words_is ∙ sym (cells-quiet engine.core.sizes A (Done c) refl (λ p. refl) (λ b. refl)))
      (holds-done engine.core.sizes A c engine.held held st.core_stands.accepted removed st.held_is)
    where
      B : List Step
      B = A ++ Done c ∷ []

      h : fault_of engine.core.sizes A (Done c) ≡ None
      h = (free_of engine A (Done c) core_new r moved).0

      found : Found engine.core.sizes A c engine.held
      found = holds-found engine.core.sizes A c engine.held st.core_stands.accepted (done_fault-none engine.core.sizes A c h) st.held_is

      kind_is : kind_or_job_0 (action_at c B) ≡ found.waiting.kind
      kind_is = ap kind_or_job_0 (action_at-done c A ∙ found.listed_as)

  -- an engine has F * P words
  pub words_length : (engine : Whole F) → IsEngine engine → length engine.words ≡ engine.core.sizes.frames * engine.core.sizes.page_size
  words_length engine at = ap length at.1.words_is ∙ length-cell_words engine.core.sizes at.0

  -- the word at an address that may be read
  pub read_word : (engine : Whole F) (A : List Step) (t a cell d : ℕ) → EngineStands engine A → fault_of engine.core.sizes A (Read t a) ≡ None → cell ≡ cell_at engine.core.sizes a → cell < engine.core.sizes.frames * engine.core.sizes.page_size → get_or engine.words cell d ≡ word a A
  read_word engine A t a cell d st h at within =
      ap (λ ws. get_or ws cell d) st.words_is
      ∙ cell_words-at engine.core.sizes A cell d within
      ∙ ap (cell_word engine.core.sizes A) at
      ∙ cells-read engine.core.sizes A t a (page_size_some engine A st) (frames_some engine A st) st.core_stands.accepted h

  -- the words of a page that its frame shows
  pub page_shown : (engine : Whole F) (A : List Step) (p : ℕ) → EngineStands engine A → shown_page engine.core.sizes (p % engine.core.sizes.frames) A ≡ Some p → take engine.core.sizes.page_size (drop (p % engine.core.sizes.frames * engine.core.sizes.page_size) engine.words) ≡ page_words engine.core.sizes p A
  page_shown engine A p st shown = ap (λ ws. take engine.core.sizes.page_size (drop (p % engine.core.sizes.frames * engine.core.sizes.page_size) ws)) st.words_is ∙ sym (cells-page engine.core.sizes A p (page_size_some engine A st) (frames_some engine A st) shown)

  -- what a frame shows is told by the core: it shows the same at each list where the engine stands
  pub shown_alike : (engine : Whole F) (A B : List Step) (f : ℕ) → EngineStands engine A → EngineStands engine B → f < engine.core.sizes.frames → shown_page engine.core.sizes f A ≡ shown_page engine.core.sizes f B
  shown_alike engine A B f st st2 within =
      shown-is engine.core.sizes f A ∙ sym (shown_held A (last_entered engine.core.sizes f A))
      ∙ ap shown_in (sym (row_at (held_of engine.core.sizes A) engine.core.sizes.frames f None within)
      ∙ ap (λ (T : Pages). get_or T.frames f None) (sym st.core_stands.pages_is ∙ st2.core_stands.pages_is)
      ∙ row_at (held_of engine.core.sizes B) engine.core.sizes.frames f None within)
      ∙ shown_held B (last_entered engine.core.sizes f B) ∙ sym (shown-is engine.core.sizes f B)
    where
      shown_in : Option Held → Option ℕ
      shown_in None = None
      shown_in (Some held) = cond held.freed None (Some held.page)

      shown_held : (A : List Step) (o : Option ℕ) → shown_in (option_map (marked engine.core.sizes A) o) ≡ unless_freed engine.core.sizes A o
      shown_held A None = refl
      shown_held A (Some p) = refl

  -- a page's cells lie in the row
  pub page_fits : (engine : Whole F) (p start len : ℕ) (words : List ℕ) → IsEngine engine → start ≡ p % engine.core.sizes.frames * engine.core.sizes.page_size → len ≡ engine.core.sizes.page_size → words ≡ engine.words → start + len ≤ length words
  page_fits engine p start len words at s l w = omega (arith, s, l, ap length w, words_length engine at, frame_fits engine.core.sizes p (frames_some engine at.0 at.1))

  -- these words are those of a page that the engine has in its frame
  pub page_words_of : (engine : Whole F) (A : List Step) (p start len : ℕ) (words : List ℕ) → Shows engine p → EngineStands engine A → start ≡ p % engine.core.sizes.frames * engine.core.sizes.page_size → len ≡ engine.core.sizes.page_size → words ≡ engine.words → take len (drop start words) ≡ page_words engine.core.sizes p A
  page_words_of engine A p start len words shows st s l w =
      ap (λ ws. take len (drop start ws)) w
      ∙ ap₂ (λ i n. take n (drop i engine.words)) s l
      ∙ page_shown engine A p st (shown_alike engine A shows.0 (p % engine.core.sizes.frames) st shows.1 (mod_below p engine.core.sizes.frames (frames_some engine A st)) ∙ shows.2)

  -- a read as a step
  pub moved_by_read : (keeps : ℕ → FiringRecord → ℕ → Type 0) (engine : Whole F) (A : List Step) (t a : ℕ) (result : Result ℕ Fault) → EngineStands engine A → result ≡ unless_fault (fault_of engine.core.sizes A (Read t a)) (word a A) → Moved keeps engine A (Read t a) engine (as_reply Value result)
  moved_by_read keeps engine A t a (Ok v) st h =
      let p = unless_ok (fault_of engine.core.sizes A (Read t a)) v (word a A) h in
      moved_read keeps engine A t a v engine.core Readable st (read_ok job_tag engine.core A t a st.core_stands p.0) p.1
  moved_by_read keeps engine A t a (Err f) st h =
      moved_err keeps engine A (Read t a) engine.core f st (refused_step job_tag engine.core A (Read t a) f st.core_stands (unless_err (fault_of engine.core.sizes A (Read t a)) f (word a A) h))

  -- an engine that was just opened
  pub engine_opens : (sizes : Sizes) (core : State (KeptRecord F)) (words : List ℕ) (held : Row F) (cells places : ℕ) → Stands job_tag core [] × (core.sizes ≡ sizes) → words ≡ replicate cells 0 → cells ≡ sizes.frames * sizes.page_size → held ≡ record { room = places; actions = [] } → places ≡ sizes.drain → EngineStands (record { core = core; words = words; held = held }) []
  engine_opens sizes core words held cells places opened w c h p =
      engine_stands sizes core words held [] opened.1 opened.0
      (w ∙ ap (λ n. replicate n 0) c ∙ sym (cells-nil sizes (omega (arith, opened.0.in_range.page_size_least, ap (λ (z : Sizes). z.page_size) opened.1))))
      (holds-nil sizes held (h ∙ ap (λ n. row_of n) p))
    where
      row_of : ℕ → Row F
      row_of n = record { room = n; actions = [] }

  -- a read that is checked and finds this word
  pub found_word : (engine : Whole F) (A : List Step) (t a v cell d : ℕ) → EngineStands engine A → Accepted (fault_of engine.core.sizes A (Read t a)) → cell ≡ cell_at engine.core.sizes a → cell < engine.core.sizes.frames * engine.core.sizes.page_size → v ≡ get_or engine.words cell d → Ok v ≡ unless_fault (fault_of engine.core.sizes A (Read t a)) (word a A)
  found_word engine A t a v cell d st free at within is =
      let h = (unless_ok {X = Unit {0}} (fault_of engine.core.sizes A (Read t a)) tt tt free).0 in
      ap (λ z. Ok z) (is ∙ read_word engine A t a cell d st h at within) ∙ sym (ap (λ (o : Option Fault). unless_fault o (word a A)) h)

  -- a read that is refused
  pub found_fault : (engine : Whole F) (A : List Step) (t a : ℕ) (f : Fault) → Err f ≡ unless_fault (fault_of engine.core.sizes A (Read t a)) (tt {0}) → Err f ≡ unless_fault (fault_of engine.core.sizes A (Read t a)) (word a A)
  found_fault engine A t a f refused = sym (ap (λ (o : Option Fault). unless_fault o (word a A)) (unless_err (fault_of engine.core.sizes A (Read t a)) f (tt {0}) refused))

  -- a write as a step
  pub moved_by_write : (keeps : ℕ → FiringRecord → ℕ → Type 0) (engine new : Whole F) (A : List Step) (t a v : ℕ) (result : Result (Unit {0}) Fault) → result ≡ unless_fault (fault_of engine.core.sizes A (Write t a v)) tt → new.core.sizes ≡ engine.core.sizes → EngineStands new (extended engine.core.sizes A (Write t a v)) → Moved keeps engine A (Write t a v) new (as_reply (λ _. Written) result)
  moved_by_write keeps engine new A t a v result h same st = record {
    told = told_same keeps engine.core.sizes A (Write t a v) (as_reply (λ _. Written) result) refl (written_told (fault_of engine.core.sizes A (Write t a v)) result h);
    sizes = same;
    standing = st;
  }

  -- the page that a frame is said to show is one that the engine shows
  pub frame_shows : (engine : Whole F) (f : ℕ) (told : FrameState × Option ℕ) → IsEngine engine → ((A : List Step) → Stands job_tag engine.core A → told ≡ frame_of engine.core.sizes f A) → IfSome told.1 (λ p. Shows engine p)
  frame_shows engine f told at is = by_page told.1 (sym (ap (λ (r : FrameState × Option ℕ). r.1) (is at.0 at.1.core_stands)))
    where
      by_page : (o : Option ℕ) → shown_page engine.core.sizes f at.0 ≡ o → IfSome o (λ p. Shows engine p)
      by_page None e = tt
      by_page (Some p) e =
          let of_f = shown-frame engine.core.sizes f p at.0 (page_size_some engine at.0 at.1) (frames_some engine at.0 at.1) e in
          (at.0, at.1, ap (λ z. shown_page engine.core.sizes z at.0) of_f ∙ e)
