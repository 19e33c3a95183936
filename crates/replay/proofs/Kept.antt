-- Every step keeps the segments, the sections and the symbol table right. Assumes nothing.
use Rattle.std.proofs.Common.{◌≡◌, ℕ, ◌+◌, ◌-◌, ◌*◌, ◌^◌, ◌<◌, ◌≤◌, min, Bool, true, false, cond, eqb, ltb, leb, List as Row, [], ◌∷◌, ◌++◌, length, Some, None, Ok, Err, Option, Result, sym, refl, ap, ◌∙◌, subst, arith}
use Rattle.std.proofs.Math.Nat.{add-zero, pos_of_ne-zero}
use Rattle.std.proofs.lemmas.Bool.{cond_both, and_parts, or_parts, eqb-true, eqb-false, ltb-false, leb-true}
use Rattle.source.specs.declared.refusal.Reason.TheVariants.{ShortHeader, ListFull}
use Rattle.source.specs.declared.refusal.Refusal.{Refusal}
use Rattle.source.specs.Refusals.{refusal}
use Rattle.list.specs.Contents.{Contents, free, records, pushed}
use Rattle.fields.specs.declared.endian.Endianness.{Endianness}
use Rattle.fields.specs.declared.endian.Endianness.TheVariants.{Big}
use Rattle.fields.specs.declared.load_command.LoadCommand.{LoadCommand}
use Rattle.fields.specs.declared.load_command.SymtabCommand.{SymtabCommand}
use Rattle.fields.specs.declared.segment.Segment.{Segment as SegmentFields}
use Rattle.fields.specs.Numbers.{number}
use Rattle.fields.specs.Records.{header, header_size, endian_of, load_command, segment_size, section_size, symtab, nlist_size}
use Rattle.sections.specs.declared.offset.SectionOffsets.{SectionOffsets}
use Rattle.sections.specs.declared.record.SectionRecord.{SectionRecord}
use Rattle.sections.specs.declared.record.SectionTable.{SectionTable}
use Rattle.sections.specs.declared.record.SegmentRecord.{SegmentRecord}
use Rattle.sections.specs.Listings.{checked, filled}
use Rattle.sections.specs.Offsets.{begun}
use Rattle.sections.proofs.Layouts.{rows_from, filled-rows}
use Rattle.reader.specs.declared.state.Deed.{Deed}
use Rattle.reader.specs.declared.state.Damage.{Damage}
use Rattle.reader.specs.declared.state.SegmentPlan.{SegmentPlan}
use Rattle.reader.specs.declared.state.State.{State}
use Rattle.reader.specs.declared.state.StepAnswer.TheVariants.{Segment}
use Rattle.reader.specs.Commands.{rest, stands, next_of, table_of, plan_by, plan_of, symtab_of, list_by, remember_by, segment_command, deed_of}
use Rattle.reader.specs.Walks.{at_start, opened_as, opened, lacks_room, segment_record, Step, moved, moved_if, done_by, stepped_by, step_of}
use Rattle.reader.proofs.Layouts.{next_segment_is_listed_as_its_only_layout}
use Rattle.replay.specs.Segments.{ncmds, end_of_table, segment_at, Stands, SegmentIs, Passed, start, other_command, native_segment, LastSymtab, no_command, another, newer}
use Rattle.replay.specs.Walked.{command_passed, SectionsAreRight}
use Rattle.replay.proofs.Rows.{rows-length, rows_right}
use Rattle.replay.proofs.Slots.{Grown, grown_none, grown_pushed, grown_filled, records-pushed, records-length, numbered_got}

-- what a walk keeps of the header, of the commands that it has passed, and of both lists
pub record Kept (wide : Bool) (xs : Row ℕ) (e : Endianness) (segments_before : Contents SegmentRecord) (sections_before : Contents SectionRecord) (k : ℕ) (w : State) (segments : Contents SegmentRecord) (sections : Contents SectionRecord) : Type 0 where
  pub endian : w.endian ≡ e
  pub filetype : w.filetype ≡ (header xs e).filetype
  pub table : w.table_end ≡ end_of_table wide xs e
  pub left : k + w.left ≡ ncmds wide xs e
  pub passed : Passed wide xs e k w.place (records segments) (records sections)
  pub symtab : LastSymtab wide xs e k w.place w.symtab
  pub symbols_inside : (t : SymtabCommand) → w.symtab ≡ Some t → t.symoff + t.nsyms * nlist_size wide ≤ length xs
  pub segments_grown : Grown segments_before segments
  pub sections_grown : Grown sections_before sections

pub kept_right : (wide : Bool) (xs : Row ℕ) (e : Endianness) (segments_before : Contents SegmentRecord) (sections_before : Contents SectionRecord) (k : ℕ) (w : State) (segments : Contents SegmentRecord) (sections : Contents SectionRecord) →
    Kept wide xs e segments_before sections_before k w segments sections → SectionsAreRight wide xs e k w segments_before sections_before segments sections
kept_right wide xs e segments_before sections_before k w segments sections h =
    record {
      passed = h.passed;
      numbered = numbered_got wide xs e k w.place (records segments) sections h.passed;
      segments_kept = h.segments_grown.kept;
      sections_kept = h.sections_grown.kept;
      layout = next_segment_is_listed_as_its_only_layout wide xs w segments sections;
      symtab = h.symtab;
      symbols_inside = h.symbols_inside;
    }

-- a walk that is opened is at the first command
open_at : (wide : Bool) (xs : Row ℕ) (w : State) (b : Bool) (o : Option Endianness) (r : Refusal) → Ok w ≡ cond b (Err r) (opened_as wide xs o) → (e : Endianness) × (w ≡ at_start wide xs e)
open_at wide xs w true o r h = cc
open_at wide xs w false None r h = cc
open_at wide xs w false (Some e) r h = (e, cc)

pub opened_kept : (wide : Bool) (xs : Row ℕ) (w : State) (segments : Contents SegmentRecord) (sections : Contents SectionRecord) →
    Ok w ≡ opened wide xs → segments.count ≡ 0 → sections.count ≡ 0 → Kept wide xs w.endian segments sections 0 w segments sections
opened_kept wide xs w segments sections o a b =
    let at = open_at wide xs w (ltb (length xs) (header_size wide)) (endian_of wide (number xs 0 4 Big)) (refusal ShortHeader 0) o in
    let e = at.0 in
    let none_yet : Passed wide xs e 0 (header_size wide) (records segments) (records sections) = rw (a, b) start in
    subst (λ v. Kept wide xs v.endian segments sections 0 v segments sections) (sym at.1)
    (record {
      endian = refl;
      filetype = refl;
      table = refl;
      left = omega arith;
      passed = none_yet;
      symtab = no_command;
      symbols_inside = λ t z. cc;
      segments_grown = grown_none segments a;
      sections_grown = grown_none sections b;
    })

below_free : {X : Type 0} (l : Contents X) → (free l ≡ 0 → ⊥) → l.count < length l.slots
below_free l h = let a = pos_of_ne-zero h in omega arith

not_symtab : (wide : Bool) (n : ℕ) → n ≡ segment_command wide → n ≡ 0x2 → ⊥
not_symtab true n a b = omega arith
not_symtab false n a b = omega arith

module _ (wide : Bool) (xs : Row ℕ) (segments_before : Contents SegmentRecord) (sections_before : Contents SectionRecord) (k : ℕ) (w : State) (segments : Contents SegmentRecord) (sections : Contents SectionRecord) where
  abbrev e : Endianness
  e = w.endian

  abbrev After : Step → Type 0
  After s = Kept wide xs e segments_before sections_before (k + command_passed s.answer) s.state s.segments s.sections

  module _ (h : Kept wide xs e segments_before sections_before k w segments sections) where
    -- where no command is passed, all is as it was
    not_passed : (over : Bool) →
        Kept wide xs e segments_before sections_before (k + 0) (record w { over = over }) segments sections
    not_passed over =
        rw add-zero (record {
          endian = h.endian;
          filetype = h.filetype;
          table = h.table;
          left = h.left;
          passed = h.passed;
          symtab = h.symtab;
          symbols_inside = h.symbols_inside;
          segments_grown = h.segments_grown;
          sections_grown = h.sections_grown;
        })

    abbrev c : LoadCommand
    c = load_command xs w.place w.endian

    module _ (s : Stands wide xs e k w.place) (some_left : 1 ≤ w.left) where
      left_one : k + 1 + (w.left - 1) ≡ ncmds wide xs e
      left_one = let a = h.left in omega arith

      -- past a command that is neither a native segment nor LC_SYMTAB
      passed_other : (c.cmd ≡ segment_command wide → ⊥) → (c.cmd ≡ 0x2 → ⊥) → After (done_by wide xs w c segments sections (Ok None))
      passed_other a b =
          record {
            endian = refl;
            filetype = h.filetype;
            table = h.table;
            left = left_one;
            passed = other_command h.passed s a;
            symtab = another h.symtab s b;
            symbols_inside = h.symbols_inside;
            segments_grown = h.segments_grown;
            sections_grown = h.sections_grown;
          }

      passed_symtab : (c.cmd ≡ segment_command wide → ⊥) → c.cmd ≡ 0x2 → After (done_by wide xs w c segments sections (remember_by (symtab_of wide xs w c)))
      unfolding symtab_of
      passed_symtab a b =
          let t = symtab xs w.place w.endian in
          let Done : Result SymtabCommand Refusal → Type 0 = λ r. After (done_by wide xs w c segments sections (remember_by r)) in
          cond_both (ltb c.cmdsize 24) _ _ Done (λ short. not_passed w.over)
          (λ long. cond_both (ltb (length xs) (t.symoff + t.nsyms * nlist_size wide)) _ _ Done (λ past. not_passed w.over)
          (λ inside.
          record {
            endian = refl;
            filetype = h.filetype;
            table = h.table;
            left = left_one;
            passed = other_command h.passed s a;
            symtab = newer h.symtab s b (ltb-false c.cmdsize 24 long);
            symbols_inside = λ u is. subst (λ v. v.symoff + v.nsyms * nlist_size wide ≤ length xs) (let same : t ≡ u = cc in same) (ltb-false (length xs) (t.symoff + t.nsyms * nlist_size wide) inside);
            segments_grown = h.segments_grown;
            sections_grown = h.sections_grown;
          }))

      module _ (is : c.cmd ≡ segment_command wide) where
        abbrev x : SegmentFields
        x = segment_at wide xs e w.place

        abbrev t : SectionTable
        t = table_of wide w x

        abbrev n : ℕ
        n = x.nsects

        abbrev q : ℕ
        q = w.place + segment_size wide

        abbrev o : SectionOffsets
        o = begun x.fileoff x.filesize

        module _ (whole : segment_size wide + n * section_size wide ≤ c.cmdsize) where
          inside : q + n * section_size wide ≤ length xs
          inside = let a = s.inside in let b = s.table in omega arith

          module _ (after : SectionOffsets) (found : checked wide xs t n q o ≡ Ok after) where
            abbrev plan : SegmentPlan
            plan = record { table = t; offsets = o; wrapped = after.wrapped }

            abbrev rows : ℕ → Row SectionRecord
            rows m = rows_from wide xs t n q o m

            segment_is : (m : ℕ) → m ≡ sections.count → SegmentIs wide xs e w.place m (segment_record plan sections) (rows m)
            segment_is m same =
                let says = ap (λ f. (table_of wide (record w { filetype = f }) x).read_only) h.filetype in
                let r = rows_right wide xs t w.place says n q o after m inside found in
                record {
                  whole = whole;
                  place = refl;
                  first = ap (λ z. min (z + 1) (2 ^ 64 - 1)) (sym same);
                  count = sym (rows-length wide xs t n q o m);
                  all = rows-length wide xs t n q o m;
                  reached = r.reached;
                  sections = r.listed;
                  wrapped = r.wrapped;
                }

            -- with room, the segment is listed
            listed : lacks_room plan segments sections ≡ false →
                Kept wide xs e segments_before sections_before (k + 1) (moved w c w.symtab) (pushed segments (segment_record plan sections)) (filled wide xs t n q o sections)
            listed room =
                let slots = or_parts (eqb (free segments) 0) (ltb (free sections) n) room in
                let some-free = eqb-false (free segments) 0 slots.0 in
                let enough : n ≤ free sections = ltb-false (free sections) n slots.1 in
                let fits = h.segments_grown.fits in
                let slot : segments.count < length segments.slots = below_free segments some-free in
                let m = length (records sections) in
                let same : m ≡ sections.count = records-length sections h.sections_grown.fits in
                let more : records (filled wide xs t n q o sections) ≡ records sections ++ rows m =
                filled-rows wide xs t n q o sections inside enough ∙ ap (λ z. records sections ++ rows z) (sym same) in
                let pass : Passed wide xs e (k + 1) (w.place + c.cmdsize) (records segments ++ segment_record plan sections ∷ []) (records sections ++ rows m) =
                native_segment h.passed s is (segment_is m same) in
                record {
                  endian = refl;
                  filetype = h.filetype;
                  table = h.table;
                  left = left_one;
                  passed =
                      subst (λ z. Passed wide xs e (k + 1) (w.place + c.cmdsize) z (records (filled wide xs t n q o sections))) (sym (records-pushed segments (segment_record plan sections) slot))
                      (subst (Passed wide xs e (k + 1) (w.place + c.cmdsize) (records segments ++ segment_record plan sections ∷ [])) (sym more) pass);
                  symtab = another h.symtab s (not_symtab wide c.cmd is);
                  symbols_inside = h.symbols_inside;
                  segments_grown = grown_pushed segments_before segments (segment_record plan sections) h.segments_grown;
                  sections_grown = grown_filled wide xs t sections_before n q o sections h.sections_grown;
                }

            listed_by : (b : Bool) → lacks_room plan segments sections ≡ b →
                After (record {
                  answer = cond b (Err (refusal ListFull w.place)) (Ok Segment);
                  state = moved_if (cond b (Err (refusal ListFull w.place)) (Ok Segment)) w (moved w c w.symtab);
                  segments = cond b segments (pushed segments (segment_record plan sections));
                  sections = cond b sections (filled wide xs t n q o sections);
                })
            listed_by true room = not_passed w.over
            listed_by false room = listed room

          passed_found : (r : Result SectionOffsets Refusal) → checked wide xs t n q o ≡ r → After (done_by wide xs w c segments sections (list_by (plan_by t o r)))
          passed_found (Ok after) found = listed_by after found (lacks_room (plan after found) segments sections) refl
          passed_found (Err r) found = not_passed w.over

        passed_segment : After (done_by wide xs w c segments sections (list_by (plan_of wide xs w c)))
        unfolding plan_of
        passed_segment =
            let Done : Result SegmentPlan Refusal → Type 0 = λ r. After (done_by wide xs w c segments sections (list_by r)) in
            cond_both (ltb c.cmdsize (segment_size wide)) _ _ Done (λ short. not_passed w.over)
            (λ long. cond_both (ltb (c.cmdsize - segment_size wide) (n * section_size wide)) _ _ Done (λ past. not_passed w.over)
            (λ fits.
            let a : segment_size wide ≤ c.cmdsize = ltb-false c.cmdsize (segment_size wide) long in
            let b : n * section_size wide ≤ c.cmdsize - segment_size wide = ltb-false (c.cmdsize - segment_size wide) (n * section_size wide) fits in
            passed_found (omega arith) (checked wide xs t n q o) refl))

      passed_command : After (done_by wide xs w c segments sections (deed_of wide xs w c))
      unfolding deed_of
      passed_command =
          let Done : Result (Option Deed) Refusal → Type 0 = λ d. After (done_by wide xs w c segments sections d) in
          cond_both (eqb c.cmd (segment_command wide)) _ _ Done (λ is. passed_segment (eqb-true _ _ is))
          (λ not. cond_both (eqb c.cmd 0x2) _ _ Done
          (λ is. passed_symtab (eqb-false _ _ not) (eqb-true _ _ is))
          (λ neither. passed_other (eqb-false _ _ not) (eqb-false _ _ neither)))

    after_next : After (step_of wide xs w segments sections)
    unfolding next_of
    after_next =
        let Done : Result (Option LoadCommand) Damage → Type 0 = λ m. After (stepped_by wide xs w segments sections m) in
        cond_both w.over _ _ Done (λ over. not_passed true)
        (λ on. cond_both (ltb (length xs) w.table_end) _ _ Done (λ past. not_passed true)
        (λ table. cond_both (eqb w.left 0) _ _ Done (λ no. not_passed true)
        (λ some. cond_both (ltb (rest w) 8) _ _ Done (λ short. not_passed true)
        (λ eight. cond_both (stands w c) _ _ Done
        (λ stand.
        let both = and_parts (leb 8 c.cmdsize) (leb c.cmdsize (rest w)) stand in
        let a : w.table_end ≤ length xs = ltb-false _ _ table in
        let some_left : 1 ≤ w.left = pos_of_ne-zero (eqb-false w.left 0 some) in
        let b : 8 ≤ rest w = ltb-false (rest w) 8 eight in
        let d : 8 ≤ c.cmdsize = leb-true 8 c.cmdsize both.0 in
        let f : c.cmdsize ≤ rest w = leb-true c.cmdsize (rest w) both.1 in
        let g = h.table in
        let l = h.left in
        passed_command (record { table = omega arith; counted = omega arith; eight = omega arith; size = d; inside = omega arith }) some_left)
        (λ falls. not_passed true)))))

pub step_kept : (wide : Bool) (xs : Row ℕ) (e : Endianness) (segments_before : Contents SegmentRecord) (sections_before : Contents SectionRecord) (k : ℕ) (w : State) (segments : Contents SegmentRecord) (sections : Contents SectionRecord) →
    Kept wide xs e segments_before sections_before k w segments sections →
    Kept wide xs e segments_before sections_before
    (k + command_passed (step_of wide xs w segments sections).answer)
    (step_of wide xs w segments sections).state
    (step_of wide xs w segments sections).segments
    (step_of wide xs w segments sections).sections
step_kept wide xs e segments_before sections_before k w segments sections h =
    let s = step_of wide xs w segments sections in
    subst (λ v. Kept wide xs v segments_before sections_before k w segments sections → Kept wide xs v segments_before sections_before (k + command_passed s.answer) s.state s.segments s.sections)
    h.endian (after_next wide xs segments_before sections_before k w segments sections) h
