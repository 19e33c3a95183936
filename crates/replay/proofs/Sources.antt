-- Runs on sources that mean the same bytes answer alike. Assumes nothing.
use Rattle.std.proofs.Common.{◌≡◌, ℕ, ◌-◌, Bool, true, false, cond, List as Row, [], ◌∷◌, take, Some, None, Ok, Err, Option, Result, refl, ap, ◌∙◌, subst}
use Rattle.source.specs.declared.refusal.Reason.TheVariants.{ListFull}
use Rattle.source.specs.declared.refusal.Refusal.{Refusal}
use Rattle.source.specs.Refusals.{refusal}
use Rattle.list.specs.Contents.{Contents}
use Rattle.fields.specs.declared.load_command.SymtabCommand.{SymtabCommand}
use Rattle.fields.specs.declared.symbol.Nlist.{Nlist}
use Rattle.sections.specs.declared.record.SectionRecord.{SectionRecord}
use Rattle.stabs.specs.declared.cursor.Addition.{Addition}
use Rattle.stabs.specs.declared.cursor.Addition.TheVariants.{File, Entry}
use Rattle.stabs.specs.declared.map.MapEntry.{MapEntry}
use Rattle.stabs.specs.declared.map.MapFile.{MapFile}
use Rattle.symbols.specs.declared.symbol.SymbolSection.{SymbolSection}
use Rattle.symbols.specs.declared.symbol.SymbolSection.TheVariants.{Unknown, Undefined, Absolute, Common, Section as InSection}
use Rattle.symbols.specs.Symbols.{symbol_of, record_for, kind_by, is_stab, address_of, section_for, scope_of, is_weak}
use Rattle.reader.specs.declared.state.MapAnswer.TheVariants.{Passed}
use Rattle.reader.specs.declared.state.MapState.{MapState}
use Rattle.reader.specs.declared.state.State.{State}
use Rattle.reader.specs.declared.table.TableSymbol.{TableSymbol}
use Rattle.stabs.specs.Cursors.{told_if, left_if}
use Rattle.reader.specs.Maps.{map_begun, file_of, stab_for, MapStep as Outcome, map_by, add_answer, add_file, add_entry, room_for, passed_if}
use Rattle.reader.specs.Tables.{symbol_at, symbol_by}
use Rattle.reader.specs.Walks.{opened}
use Rattle.replay.specs.declared.calls.Answer.TheVariants.{Stepped, Listed, Found, Known, Mapped}
use Rattle.replay.specs.declared.calls.Call.{Call}
use Rattle.replay.specs.declared.calls.Call.TheVariants.{Step, Finish, Section, Find, Symbol, Name, MapStep}
use Rattle.replay.specs.Alike.{Alike}
use Rattle.replay.specs.Law.{Empty, SameCapacities, SameRecords, RunsAgree, begun_at, lists_by, answers_by}
use Rattle.replay.specs.Runs.{Lists, Run, answered, answer_in, next_in, answer_of, next_of, answers_of, final_of}
use Rattle.replay.proofs.Alike.{alike_empty, alike_room, alike_got, alike_pushed}
use Rattle.replay.proofs.AlikeCalls.{step_alike, section_alike, find_alike}

module _ (xs : Row ℕ) {a b : Contents SectionRecord} (h : Alike a b) where
  record_alike : (s : SymbolSection) → record_for a s ≡ record_for b s
  record_alike (InSection n) = alike_got h (n - 1)
  record_alike Unknown = refl
  record_alike Undefined = refl
  record_alike Absolute = refl
  record_alike Common = refl

  symbol_alike : (t : SymtabCommand) (x : Nlist) → symbol_of xs t a x ≡ symbol_of xs t b x
  unfolding symbol_of
  symbol_alike t x =
      ap (λ (r : Option SectionRecord). cond (is_stab x) None (Some (record { address = address_of x; section = section_for x; kind = kind_by xs t x r; scope = scope_of x; weak = is_weak x })))
      (record_alike (section_for x))

  numbered_alike : (n : ℕ) (o : Option TableSymbol) → symbol_by xs a n o ≡ symbol_by xs b n o
  numbered_alike n None = refl
  numbered_alike n (Some x) = ap Ok (symbol_alike x.table x.nlist)

record MapAlike (x y : Outcome) : Type 0 where
  answer : x.answer ≡ y.answer
  state : x.state ≡ y.state
  files : Alike x.files y.files
  entries : Alike x.entries y.entries

module _ (xs : Row ℕ) (s : MapState) {a b : Contents MapFile} {l m : Contents MapEntry} (h : Alike a b) (k : Alike l m) where
  room_alike : (x : Option Addition) → room_for x a l ≡ room_for x b m
  room_alike None = refl
  room_alike (Some (File name)) = alike_room h
  room_alike (Some (Entry y)) = alike_room k

  answer_alike : (x : Option Addition) (p : ℕ) → add_answer x p a l ≡ add_answer x p b m
  answer_alike x p = ap (λ r. cond r (Ok Passed) (Err (refusal ListFull p))) (room_alike x)

  file_alike : (x : Option Addition) → Alike (add_file xs x a) (add_file xs x b)
  file_alike None = h
  file_alike (Some (File name)) = alike_pushed h (file_of xs name)
  file_alike (Some (Entry y)) = h

  entry_alike : (x : Option Addition) → Alike (add_entry x l) (add_entry x m)
  entry_alike None = k
  entry_alike (Some (File name)) = k
  entry_alike (Some (Entry y)) = alike_pushed k y

  map_alike : (o : Option TableSymbol) → MapAlike (map_by xs s a l o) (map_by xs s b m o)
  map_alike None = record { answer = refl; state = refl; files = h; entries = k }
  map_alike (Some x) =
      let t = told_if s.cursor (stab_for xs x) in
      let same = answer_alike t x.place in
      record {
        answer = same;
        state = ap (λ r. passed_if r s (left_if s.cursor (stab_for xs x) a.count)) same
            ∙ ap (λ n. passed_if (add_answer t x.place b m) s (left_if s.cursor (stab_for xs x) n)) h.count;
        files = file_alike t;
        entries = entry_alike t;
      }

record ListsAlike (l m : Lists) : Type 0 where
  segments : Alike l.segments m.segments
  sections : Alike l.sections m.sections
  files : Alike l.files m.files
  entries : Alike l.entries m.entries

-- two runs that have come to the same, but for slots that are not in use
record RunAlike (r q : Run) : Type 0 where
  done : r.done ≡ q.done
  state : r.state ≡ q.state
  map : r.map ≡ q.map
  lists : ListsAlike r.lists q.lists

module _ (wide : Bool) (xs : Row ℕ) where
  module _ (w : State) (s : MapState) (l m : Lists) (h : ListsAlike l m) where
    told_alike : (c : Call) (d : Bool) → answer_in wide xs c d w s l ≡ answer_in wide xs c d w s m
    told_alike Step false = ap (answered Stepped) (step_alike wide xs w h.segments h.sections).answer
    told_alike Step true = refl
    told_alike Finish false = refl
    told_alike Finish true = refl
    told_alike (Section n) false = refl
    told_alike (Section n) true = ap (answered Listed) (section_alike h.sections n)
    told_alike (Find q) false = refl
    told_alike (Find q) true = ap Found (find_alike h.sections xs q.now)
    told_alike (Symbol n) false = refl
    told_alike (Symbol n) true = ap (answered Known) (numbered_alike xs h.sections n (symbol_at wide xs w n))
    told_alike (Name n) false = refl
    told_alike (Name n) true = refl
    told_alike MapStep false = refl
    told_alike MapStep true = ap (answered Mapped) (map_alike xs s h.files h.entries (symbol_at wide xs w s.passed)).answer

    -- a call that changes nothing
    same : (d : Bool) (v : MapState) → RunAlike (record { done = d; state = w; map = v; lists = l }) (record { done = d; state = w; map = v; lists = m })
    same d v = record { done = refl; state = refl; map = refl; lists = h }

    next_alike : (c : Call) (d : Bool) → RunAlike (next_in wide xs c d w s l) (next_in wide xs c d w s m)
    next_alike Step false =
        let r = step_alike wide xs w h.segments h.sections in
        record { done = refl; state = r.state; map = refl; lists = record { segments = r.segments; sections = r.sections; files = h.files; entries = h.entries } }
    next_alike Step true = same true s
    next_alike Finish false = same w.over map_begun
    next_alike Finish true = same true s
    next_alike (Section n) d = same d s
    next_alike (Find q) d = same d s
    next_alike (Symbol n) d = same d s
    next_alike (Name n) d = same d s
    next_alike MapStep false = same false s
    next_alike MapStep true =
        let r = map_alike xs s h.files h.entries (symbol_at wide xs w s.passed) in
        record { done = refl; state = refl; map = r.state; lists = record { segments = h.segments; sections = h.sections; files = r.files; entries = r.entries } }

  answer_of_alike : (c : Call) (r q : Run) → RunAlike r q → answer_of wide xs c r ≡ answer_of wide xs c q
  answer_of_alike c r q h = rw (h.done, h.state, h.map) (told_alike q.state q.map r.lists q.lists h.lists c q.done)

  next_of_alike : (c : Call) (r q : Run) → RunAlike r q → RunAlike (next_of wide xs c r) (next_of wide xs c q)
  next_of_alike c r q h = rw (h.done, h.state, h.map) (next_alike q.state q.map r.lists q.lists h.lists c q.done)

  answers_alike : (cs : Row Call) (r q : Run) → RunAlike r q → answers_of wide xs cs r ≡ answers_of wide xs cs q
  answers_alike [] r q h = refl
  answers_alike (c ∷ cs) r q h =
      let here = answer_of_alike c r q h in
      let on = answers_alike cs (next_of wide xs c r) (next_of wide xs c q) (next_of_alike c r q h) in
      cc

  final_alike : (cs : Row Call) (r q : Run) → RunAlike r q → RunAlike (final_of wide xs cs r) (final_of wide xs cs q)
  final_alike [] r q h = h
  final_alike (c ∷ cs) r q h = final_alike cs (next_of wide xs c r) (next_of wide xs c q) (next_of_alike c r q h)

  module _ (l m : Lists) (h : ListsAlike l m) where
    begun_alike : (w : State) → RunAlike (begun_at w l) (begun_at w m)
    begun_alike w = record { done = refl; state = refl; map = refl; lists = h }

    told_by : (cs : Row Call) (o : Result State Refusal) → answers_by wide xs cs l o ≡ answers_by wide xs cs m o
    told_by cs (Ok w) = answers_alike cs (begun_at w l) (begun_at w m) (begun_alike w)
    told_by cs (Err e) = refl

    left_by : (cs : Row Call) (o : Result State Refusal) → ListsAlike (lists_by wide xs cs l o) (lists_by wide xs cs m o)
    left_by cs (Ok w) = (final_alike cs (begun_at w l) (begun_at w m) (begun_alike w)).lists
    left_by cs (Err e) = h

  same_records : (l m : Lists) → ListsAlike l m → SameRecords l m
  same_records l m h = record { segments = h.segments.records; sections = h.sections.records; files = h.files.records; entries = h.entries.records }

  same_bytes_agree : (calls : Row Call) (l m : Lists) → ListsAlike l m → RunsAgree wide xs xs calls l m
  same_bytes_agree calls l m h =
      record {
        open_agrees = refl;
        answers_agree = λ n. told_by l m h (take n calls) (opened wide xs);
        records_agree = λ n. same_records _ _ (left_by l m h (take n calls) (opened wide xs));
      }

empty_alike : (l m : Lists) → Empty l → Empty m → SameCapacities l m → ListsAlike l m
empty_alike l m p q c =
    record {
      segments = alike_empty l.segments m.segments p.segments q.segments c.segments;
      sections = alike_empty l.sections m.sections p.sections q.sections c.sections;
      files = alike_empty l.files m.files p.files q.files c.files;
      entries = alike_empty l.entries m.entries p.entries q.entries c.entries;
    }

pub same_bytes_answer_alike : (wide : Bool) (xs ys : Row ℕ) (calls : Row Call) (l m : Lists) →
    xs ≡ ys → Empty l → Empty m → SameCapacities l m → RunsAgree wide xs ys calls l m
same_bytes_answer_alike wide xs ys calls l m e p q c =
    subst (λ zs. RunsAgree wide xs zs calls l m) e (same_bytes_agree wide xs calls l m (empty_alike l m p q c))
