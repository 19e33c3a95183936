-- Every call keeps the sections and the object map right. Assumes nothing.
use Rattle.std.proofs.Common.{◌≡◌, ℕ, ◌+◌, Bool, true, false, ltb, leb, List as Row, [], ◌∷◌, length, take, Some, None, Ok, Err, Option, Result, sym, refl, ap, ◌∙◌, subst, ⊎_elim, arith}
use Rattle.std.proofs.Math.Nat.{add-zero, zero-add, add_assoc}
use Rattle.std.proofs.lemmas.Bool.{cases_Bool, cond_both, cond-true, cond-false}
use Rattle.source.specs.declared.refusal.Reason.TheVariants.{ListFull}
use Rattle.source.specs.declared.refusal.Refusal.{Refusal}
use Rattle.source.specs.Refusals.{refusal}
use Rattle.list.specs.Contents.{Contents, records, has_room, pushed}
use Rattle.fields.specs.declared.endian.Endianness.{Endianness}
use Rattle.fields.specs.declared.load_command.SymtabCommand.{SymtabCommand}
use Rattle.fields.specs.Records.{nlist, nlist_at, nlist_size}
use Rattle.stabs.specs.declared.cursor.Addition.{Addition}
use Rattle.stabs.specs.declared.cursor.Addition.TheVariants.{File, Entry}
use Rattle.stabs.specs.declared.map.MapEntry.{MapEntry}
use Rattle.stabs.specs.declared.map.MapFile.{MapFile}
use Rattle.stabs.specs.declared.stab.Stab.{Stab}
use Rattle.stabs.specs.Cursors.{begun, told_if, left_if}
use Rattle.reader.specs.declared.state.MapAnswer.{MapAnswer}
use Rattle.reader.specs.declared.state.MapState.{MapState}
use Rattle.reader.specs.declared.state.State.{State}
use Rattle.reader.specs.declared.state.StepAnswer.{StepAnswer}
use Rattle.reader.specs.declared.table.TableSymbol.{TableSymbol}
use Rattle.reader.specs.Maps.{file_of, map_begun, stab_for, map_step_of, map_by, add_answer, add_file, add_entry, passed_if}
use Rattle.reader.specs.Readings.{section_of, find_in}
use Rattle.reader.specs.Tables.{symbol_at, symbol_answer, name_answer, symbol_in as symbol_of_table, symbol_place, in_table}
use Rattle.reader.specs.Walks.{opened, step_of}
use Rattle.replay.specs.declared.calls.Answer.{Answer}
use Rattle.replay.specs.declared.calls.Answer.TheVariants.{Stepped, Listed, Found, Known, Named, Mapped, Skipped}
use Rattle.replay.specs.declared.calls.Call.{Call}
use Rattle.replay.specs.declared.calls.Call.TheVariants.{Step, Finish, Section, Find, Symbol, Name, MapStep}
use Rattle.replay.specs.Law.{command_in, symbol_in, total, begun_at, Empty, stab_in, SectionsOfRun, MapOfRun, AfterEveryCall, RunIsRight}
use Rattle.replay.specs.MapKept.{MapKept}
use Rattle.replay.specs.Maps.{MapIsRight}
use Rattle.replay.specs.Runs.{Lists, Run, answered, finish_told, answer_in, next_in, next_of, answers_of, final_of}
use Rattle.replay.specs.Walked.{command_passed}
use Rattle.replay.proofs.Kept.{Kept, opened_kept, step_kept, kept_right}
use Rattle.replay.proofs.Maps.{begun_kept, nothing_kept, file_kept, entry_kept}
use Rattle.replay.proofs.Maps.{kept_right as map_right}

stepped_commands : (r : Result StepAnswer Refusal) → command_in (answered Stepped r) ≡ command_passed r
stepped_commands (Ok a) = refl
stepped_commands (Err e) = refl

stepped_symbols : (r : Result StepAnswer Refusal) → symbol_in (answered Stepped r) ≡ 0
stepped_symbols (Ok a) = refl
stepped_symbols (Err e) = refl

-- an answer that tells of nothing passed
abbrev Quiet : Answer → Type 0
Quiet a = (command_in a ≡ 0) × (symbol_in a ≡ 0)

finished_quiet : (b : Bool) (p : ℕ) → Quiet (finish_told b p)
finished_quiet true p = (refl, refl)
finished_quiet false p = (refl, refl)

answered_quiet : {X : Type 0} (answer : X → Answer) → ((x : X) → Quiet (answer x)) → (r : Result X Refusal) → Quiet (answered answer r)
answered_quiet answer quiet (Ok x) = quiet x
answered_quiet answer quiet (Err e) = (refl, refl)

mapped_commands : (r : Result MapAnswer Refusal) → command_in (answered Mapped r) ≡ 0
mapped_commands (Ok a) = refl
mapped_commands (Err e) = refl

module _ (wide : Bool) (xs : Row ℕ) (e : Endianness) (before : Lists) (empty : Empty before) where
  -- what the map is while the walk goes on, and after it
  abbrev MapPart : Bool → ℕ → State → MapState → Lists → Type 0
  MapPart false m w s l = (m ≡ 0) × (s ≡ map_begun) × (l.files ≡ before.files) × (l.entries ≡ before.entries)
  MapPart true m w s l =
      (s.passed ≡ m) × MapKept (stab_in wide xs e w.symtab) (file_of xs) before.files before.entries m s.cursor l.files l.entries

  record KeptIn (k m : ℕ) (d : Bool) (w : State) (s : MapState) (l : Lists) : Type 0 where
    sections : Kept wide xs e before.segments before.sections k w l.segments l.sections
    map : MapPart d m w s l

  abbrev RunKept : ℕ → ℕ → Run → Type 0
  RunKept k m r = KeptIn k m r.done r.state r.map r.lists

  -- a call that tells of nothing passed and leaves all as it was
  unchanged : (k m : ℕ) (d : Bool) (w : State) (s : MapState) (l : Lists) (a : Answer) → Quiet a → KeptIn k m d w s l → KeptIn (k + command_in a) (m + symbol_in a) d w s l
  unchanged k m d w s l a q h = rw (q.0, q.1, add-zero k, add-zero m) h

  -- the map of a walk that is finished begins with the first symbol
  begins : (m : ℕ) (w : State) (s : MapState) (l : Lists) → MapPart false m w s l → MapPart true m w map_begun l
  begins m w s l (none, b, f, g) =
      rw (none, f, g) (refl, begun_kept (stab_in wide xs e w.symtab) (file_of xs) before.files before.entries empty.files empty.entries)

  finish_kept : (k m : ℕ) (b : Bool) (w : State) (s : MapState) (l : Lists) → KeptIn k m false w s l → KeptIn k m b w map_begun l
  finish_kept k m true w s l h = record { sections = h.sections; map = begins m w s l h.map }
  finish_kept k m false w s l h = record { sections = h.sections; map = (h.map.0, refl, h.map.2, h.map.3) }

  step_in : (k m : ℕ) (w : State) (s : MapState) (l : Lists) → KeptIn k m false w s l →
      KeptIn (k + command_in (answer_in wide xs Step false w s l)) (m + symbol_in (answer_in wide xs Step false w s l)) false
      (step_of wide xs w l.segments l.sections).state s (next_in wide xs Step false w s l).lists
  step_in k m w s l h =
      let r = (step_of wide xs w l.segments l.sections).answer in
      let none = stepped_symbols r in
      let p = h.map in
      let zero = p.0 in
      record {
        sections = rw (stepped_commands r) (step_kept wide xs e before.segments before.sections k w l.segments l.sections h.sections);
        map = (omega arith, p.1, p.2, p.3);
      }

  -- the symbol that a map step comes to is the one of that number, in the table's own words
  module _ (w : State) (same : w.endian ≡ e) where
    stab_in_table : (t : SymtabCommand) (n : ℕ) (x : TableSymbol) → symbol_of_table wide xs e (Some t) n ≡ Some x → stab_for xs x ≡ stab_in wide xs e (Some t) n
    stab_in_table t n x q =
        cond_both (ltb n t.nsyms) (in_table t (symbol_place wide t n) (nlist_at wide xs (symbol_place wide t n) e)) None (λ o. o ≡ Some x → stab_for xs x ≡ stab_in wide xs e (Some t) n)
        (λ a. cond_both (leb (symbol_place wide t n + nlist_size wide) (length xs)) (Some (nlist wide xs (symbol_place wide t n) e)) None
        (λ o. in_table t (symbol_place wide t n) o ≡ Some x → stab_for xs x ≡ stab_in wide xs e (Some t) n)
        (λ b f. cc)
        (λ b f. cc))
        (λ a f. cc) q

    stab_there : (o : Option SymtabCommand) (n : ℕ) (x : TableSymbol) → symbol_of_table wide xs e o n ≡ Some x → stab_for xs x ≡ stab_in wide xs e o n
    stab_there None n x q = cc
    stab_there (Some t) n x q = stab_in_table t n x q

    stab_here : (n : ℕ) (x : TableSymbol) → symbol_at wide xs w n ≡ Some x → stab_for xs x ≡ stab_in wide xs e w.symtab n
    unfolding symbol_at
    stab_here n x q = stab_there w.symtab n x (ap (λ v. symbol_of_table wide xs v w.symtab n) (sym same) ∙ q)

  module _ (w : State) (m : ℕ) (s : MapState) (l : Lists) where
    abbrev stabs : ℕ → Option Stab
    stabs = stab_in wide xs e w.symtab

    abbrev MapsTo : ℕ → MapState → Contents MapFile → Contents MapEntry → Type 0
    MapsTo n v fs es = (v.passed ≡ n) × MapKept stabs (file_of xs) before.files before.entries n v.cursor fs es

    stays : s.passed ≡ m → MapKept stabs (file_of xs) before.files before.entries m s.cursor l.files l.entries → MapsTo (m + 0) s l.files l.entries
    stays p h = rw add-zero (p, h)

    -- what a symbol adds is added where there is room for it, and else nothing changes
    added_kept : (x : TableSymbol) → stab_for xs x ≡ stabs m → s.passed ≡ m → MapKept stabs (file_of xs) before.files before.entries m s.cursor l.files l.entries →
        (a : Option Addition) → told_if s.cursor (stab_for xs x) ≡ a →
        MapsTo (m + symbol_in (answered Mapped (add_answer a x.place l.files l.entries)))
        (passed_if (add_answer a x.place l.files l.entries) s (left_if s.cursor (stab_for xs x) l.files.count))
        (add_file xs a l.files) (add_entry a l.entries)
    added_kept x here p h None t =
        (omega arith, nothing_kept stabs (file_of xs) before.files before.entries m s.cursor l.files l.entries (stab_for xs x) h here t)
    added_kept x here p h (Some (File name)) t =
        let after = left_if s.cursor (stab_for xs x) l.files.count in
        let Goal : Result MapAnswer Refusal → Contents MapFile → Type 0 = λ r fs. MapsTo (m + symbol_in (answered Mapped r)) (passed_if r s after) fs l.entries in
        ⊎_elim
        (λ room. subst (λ r. Goal r (pushed l.files (file_of xs name))) (sym (cond-true _ _ _ room))
        (omega arith, file_kept stabs (file_of xs) before.files before.entries m s.cursor l.files l.entries (stab_for xs x) h here name t room))
        (λ full. subst (λ r. Goal r (pushed l.files (file_of xs name))) (sym (cond-false _ _ _ full))
        (subst (Goal (Err (refusal ListFull x.place))) (sym (cond-false _ _ _ full)) (stays p h)))
        (cases_Bool (has_room l.files))
    added_kept x here p h (Some (Entry y)) t =
        let after = left_if s.cursor (stab_for xs x) l.files.count in
        let Goal : Result MapAnswer Refusal → Contents MapEntry → Type 0 = λ r es. MapsTo (m + symbol_in (answered Mapped r)) (passed_if r s after) l.files es in
        ⊎_elim
        (λ room. subst (λ r. Goal r (pushed l.entries y)) (sym (cond-true _ _ _ room))
        (omega arith, entry_kept stabs (file_of xs) before.files before.entries m s.cursor l.files l.entries (stab_for xs x) h here y t room))
        (λ full. subst (λ r. Goal r (pushed l.entries y)) (sym (cond-false _ _ _ full))
        (subst (Goal (Err (refusal ListFull x.place))) (sym (cond-false _ _ _ full)) (stays p h)))
        (cases_Bool (has_room l.entries))

    -- a map step, by the symbol that it comes to
    symbol_kept : s.passed ≡ m → MapKept stabs (file_of xs) before.files before.entries m s.cursor l.files l.entries →
        (o : Option TableSymbol) → ((x : TableSymbol) → o ≡ Some x → stab_for xs x ≡ stabs m) →
        MapsTo (m + symbol_in (answered Mapped (map_by xs s l.files l.entries o).answer))
        (map_by xs s l.files l.entries o).state (map_by xs s l.files l.entries o).files (map_by xs s l.files l.entries o).entries
    symbol_kept p h None here = stays p h
    symbol_kept p h (Some x) here = added_kept x (here x refl) p h (told_if s.cursor (stab_for xs x)) refl

  map_step_in : (k m : ℕ) (w : State) (s : MapState) (l : Lists) → KeptIn k m true w s l →
      KeptIn (k + command_in (answer_in wide xs MapStep true w s l)) (m + symbol_in (answer_in wide xs MapStep true w s l)) true
      w (next_in wide xs MapStep true w s l).map (next_in wide xs MapStep true w s l).lists
  map_step_in k m w s l h =
      let p = h.map in
      let r = (map_step_of wide xs w s l.files l.entries).answer in
      record {
        sections = rw (mapped_commands r, add-zero) h.sections;
        map = symbol_kept w m s l p.0 p.1 (symbol_at wide xs w s.passed)
            (λ x q. stab_here w h.sections.endian s.passed x q ∙ ap (stab_in wide xs e w.symtab) p.0);
      }

  call_kept : (c : Call) (k m : ℕ) (d : Bool) (w : State) (s : MapState) (l : Lists) → KeptIn k m d w s l →
      RunKept (k + command_in (answer_in wide xs c d w s l)) (m + symbol_in (answer_in wide xs c d w s l)) (next_in wide xs c d w s l)
  call_kept Step k m false w s l h = step_in k m w s l h
  call_kept Step k m true w s l h = unchanged k m true w s l Skipped (refl, refl) h
  call_kept Finish k m false w s l h =
      unchanged k m w.over w map_begun l (finish_told w.over w.place) (finished_quiet w.over w.place) (finish_kept k m w.over w s l h)
  call_kept Finish k m true w s l h = unchanged k m true w s l Skipped (refl, refl) h
  call_kept (Section n) k m false w s l h = unchanged k m false w s l Skipped (refl, refl) h
  call_kept (Section n) k m true w s l h = unchanged k m true w s l (answered Listed (section_of l.sections n)) (answered_quiet Listed (λ x. (refl, refl)) (section_of l.sections n)) h
  call_kept (Find q) k m false w s l h = unchanged k m false w s l Skipped (refl, refl) h
  call_kept (Find q) k m true w s l h = unchanged k m true w s l (Found (find_in xs q.now (records l.sections))) (refl, refl) h
  call_kept (Symbol n) k m false w s l h = unchanged k m false w s l Skipped (refl, refl) h
  call_kept (Symbol n) k m true w s l h = unchanged k m true w s l (answered Known (symbol_answer wide xs w l.sections n)) (answered_quiet Known (λ x. (refl, refl)) (symbol_answer wide xs w l.sections n)) h
  call_kept (Name n) k m false w s l h = unchanged k m false w s l Skipped (refl, refl) h
  call_kept (Name n) k m true w s l h = unchanged k m true w s l (answered Named (name_answer wide xs w n)) (answered_quiet Named (λ x. (refl, refl)) (name_answer wide xs w n)) h
  call_kept MapStep k m false w s l h = unchanged k m false w s l Skipped (refl, refl) h
  call_kept MapStep k m true w s l h = map_step_in k m w s l h

  -- any calls, one after another
  run_kept : (cs : Row Call) (k m : ℕ) (r : Run) → RunKept k m r →
      RunKept (k + total command_in (answers_of wide xs cs r)) (m + total symbol_in (answers_of wide xs cs r)) (final_of wide xs cs r)
  run_kept [] k m r h = rw (add-zero k, add-zero m) h
  run_kept (c ∷ cs) k m r h =
      rw (← add_assoc k, ← add_assoc m) (run_kept cs _ _ (next_of wide xs c r) (call_kept c k m r.done r.state r.map r.lists h))

  -- the map of a run that has kept what is wanted is right
  map_part_right : (m : ℕ) (d : Bool) (w : State) (s : MapState) (l : Lists) → MapPart d m w s l →
      MapIsRight (stab_in wide xs e w.symtab) (file_of xs) m before.files before.entries l.files l.entries
  map_part_right m true w s l h = map_right (stab_in wide xs e w.symtab) (file_of xs) before.files before.entries m s.cursor l.files l.entries h.1
  map_part_right m false w s l h =
      map_right (stab_in wide xs e w.symtab) (file_of xs) before.files before.entries m begun l.files l.entries (begins m w s l h).1

module _ (wide : Bool) (xs : Row ℕ) (before : Lists) (calls : Row Call) where
  fresh : (empty : Empty before) (w : State) → Ok w ≡ opened wide xs → (n : ℕ) →
      RunKept wide xs w.endian before empty (total command_in (answers_of wide xs (take n calls) (begun_at w before)))
      (total symbol_in (answers_of wide xs (take n calls) (begun_at w before))) (final_of wide xs (take n calls) (begun_at w before))
  fresh empty w o n =
      let sections = opened_kept wide xs w before.segments before.sections o empty.segments empty.sections in
      let all = run_kept wide xs w.endian before empty (take n calls) 0 0 (begun_at w before) (record { sections = sections; map = (refl, refl, refl, refl) }) in
      rw (zero-add (total command_in _), zero-add (total symbol_in _)) at all

  sections_after_every_call : AfterEveryCall wide xs (SectionsOfRun wide xs) before calls
  sections_after_every_call empty w o n =
      let r = final_of wide xs (take n calls) (begun_at w before) in
      kept_right wide xs w.endian before.segments before.sections _ r.state r.lists.segments r.lists.sections (fresh empty w o n).sections

  map_after_every_call : AfterEveryCall wide xs (MapOfRun wide xs) before calls
  map_after_every_call empty w o n =
      let r = final_of wide xs (take n calls) (begun_at w before) in
      map_part_right wide xs w.endian before empty _ r.done r.state r.map r.lists (fresh empty w o n).map

  pub run_is_right : RunIsRight wide xs before calls
  run_is_right = record { sections = sections_after_every_call; map = map_after_every_call }
