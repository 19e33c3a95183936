-- Every stab keeps the object map right. Assumes nothing.
use Rattle.std.proofs.Common.{◌≡◌, ℕ, ◌+◌, ◌<◌, true, ◌⊎◌, [], ◌∷◌, ◌++◌, length, Some, None, Option, ◌≢◌, sym, refl, ap, ◌∙◌, subst, inl, inr, arith, length-set, length-append}
use Rattle.std.proofs.lemmas.List.{take_more_set}
use Rattle.std.proofs.lemmas.Bool.{cases_eq, cond-true, ltb-true}
use Rattle.source.specs.declared.span.Span.{Span}
use Rattle.list.specs.Contents.{Contents, has_room, added, pushed}
use Rattle.stabs.specs.declared.cursor.Addition.{Addition}
use Rattle.stabs.specs.declared.cursor.Addition.TheVariants.{File, Entry}
use Rattle.stabs.specs.declared.cursor.Function.{Function}
use Rattle.stabs.specs.declared.cursor.MapCursor.{MapCursor}
use Rattle.stabs.specs.declared.map.MapEntry.{MapEntry}
use Rattle.stabs.specs.declared.map.MapFile.{MapFile}
use Rattle.stabs.specs.declared.stab.Stab.{Stab}
use Rattle.stabs.specs.declared.stab.Stab.TheVariants.{Source, Object, Opening, Closing, Static}
use Rattle.stabs.specs.Cursors.{begun, closed, static, told_if, left_if}
use Rattle.replay.specs.Maps.{none_made, same_made, more_made, OpensFile, EndsFile, by_source, by_unnamed, by_named, FilesBefore, Under, OpenAt, Makes, variable, function}
use Rattle.replay.specs.Maps.{MapIsRight}
use Rattle.replay.specs.MapKept.{PendingAt, CurrentAt, MapKept}
use Rattle.replay.proofs.Slots.{rest-added}

module _ (stab_at : ℕ → Option Stab) (k : ℕ) where
  ends_none : (stab_at k ≡ Some Source → ⊥) → (stab_at k ≡ Some (Object None) → ⊥) → ((n : Span) → OpensFile stab_at k n → ⊥) → EndsFile stab_at k → ⊥
  ends_none source unnamed named (by_source p) = source p
  ends_none source unnamed named (by_unnamed p) = unnamed p
  ends_none source unnamed named (by_named n p) = named n p

  -- neither a closing nor a static variable makes an entry
  makes_none : ((z : ℕ) → stab_at k ≡ Some (Closing z) → ⊥) → ((n : Span) (a : ℕ) → stab_at k ≡ Some (Static n a) → ⊥) → (x : MapEntry) → Makes stab_at k x → ⊥
  makes_none closing static x (variable n a f p u) = static n a p
  makes_none closing static x (function j n a z f o p u) = closing z p

  -- the file after a symbol that ends one
  ended : EndsFile stab_at k → ((n : Span) → OpensFile stab_at k n → ⊥) → (f : ℕ) → Under stab_at (k + 1) f → ⊥
  ended x never f u =
      elim (cases_eq u.opener k) [
        | inl e ↦ never u.name (subst (λ m. OpensFile stab_at m u.name) e u.opens)
        | inr ne ↦ let h = u.before in u.last k (omega arith) (omega arith) x
      ]

  -- after one that does not
  still_under : (EndsFile stab_at k → ⊥) → (f : ℕ) → Under stab_at k f → Under stab_at (k + 1) f
  still_under never f u =
      let h = u.before in
      record {
        opener = u.opener;
        name = u.name;
        before = omega arith;
        opens = u.opens;
        last = λ m a b x. elim (cases_eq m k) [ inl e ↦ never (subst (EndsFile stab_at) e x) | inr ne ↦ u.last m a (omega arith) x ];
        numbered = u.numbered;
      }

  was_under : (EndsFile stab_at k → ⊥) → (f : ℕ) → Under stab_at (k + 1) f → Under stab_at k f
  was_under never f u =
      elim (cases_eq u.opener k) [
        | inl e ↦ absurd (never (by_named u.name (subst (λ m. OpensFile stab_at m u.name) e u.opens)))
        | inr ne ↦
            let h = u.before in
            record { opener = u.opener; name = u.name; before = omega arith; opens = u.opens; last = λ m a b x. u.last m a (omega arith) x; numbered = u.numbered }
      ]

  same_current : (o : Option ℕ) → (EndsFile stab_at k → ⊥) → CurrentAt stab_at k o → CurrentAt stab_at (k + 1) o
  same_current (Some f) never u = still_under never f u
  same_current None never h = λ f u. h f (was_under never f u)

  as_before : (f : ℕ) → FilesBefore stab_at k f → ((n : Span) → OpensFile stab_at k n → ⊥) → FilesBefore stab_at (k + 1) f
  as_before f (names, made, e) never = (names, same_made made never, e)

  one_more : (f : ℕ) (n : Span) → FilesBefore stab_at k f → OpensFile stab_at k n → FilesBefore stab_at (k + 1) (f + 1)
  one_more f n (names, made, e) opens = (names ++ n ∷ [], more_made made opens, length-append names (n ∷ []) ∙ ap (λ m. m + 1) e)

  -- and after one that opens one
  now_under : (n : Span) (f : ℕ) → OpensFile stab_at k n → FilesBefore stab_at k f → Under stab_at (k + 1) f
  now_under n f e b = record { opener = k; name = n; before = omega arith; opens = e; last = λ m p q x. absurd (omega arith); numbered = b }

  current_next : (c : MapCursor) (s : Option Stab) (f : ℕ) → stab_at k ≡ s → FilesBefore stab_at k f → CurrentAt stab_at k c.current → CurrentAt stab_at (k + 1) (left_if c s f).current
  current_next c (Some Source) f e b h = ended (by_source e) (λ n p. cc)
  current_next c (Some (Object (Some n))) f e b h = now_under n f e b
  current_next c (Some (Object None)) f e b h = ended (by_unnamed e) (λ n p. cc)
  current_next c (Some (Opening n a)) f e b h = same_current c.current (ends_none (λ p. cc) (λ p. cc) (λ n' p. cc)) h
  current_next c (Some (Closing z)) f e b h = same_current c.current (ends_none (λ p. cc) (λ p. cc) (λ n p. cc)) h
  current_next c (Some (Static n a)) f e b h = same_current c.current (ends_none (λ p. cc) (λ p. cc) (λ n' p. cc)) h
  current_next c None f e b h = same_current c.current (ends_none (λ p. cc) (λ p. cc) (λ n p. cc)) h

  -- an opening that is seen from k + 1 is seen from k, or is k
  was_open : (j : ℕ) (n : Span) (a : ℕ) → OpenAt stab_at j (k + 1) n a → (j ≡ k) ⊎ OpenAt stab_at j k n a
  was_open j n a o =
      elim (cases_eq j k) [
        | inl e ↦ inl e
        | inr ne ↦
            let h = o.before in
            inr
            (record {
              before = omega arith;
              opens = o.opens;
              no_opening = λ m n' a' p q. o.no_opening m n' a' p (omega arith);
              no_closing = λ m z p q. o.no_closing m z p (omega arith);
            })
      ]

  -- symbol k neither opens nor closes a function
  abbrev OpensNone : Type 0
  OpensNone = (n : Span) (a : ℕ) → stab_at k ≢ Some (Opening n a)

  abbrev ClosesNone : Type 0
  ClosesNone = (z : ℕ) → stab_at k ≢ Some (Closing z)

  -- a function stays open past such a symbol
  still_open : OpensNone → ClosesNone → (j : ℕ) (n : Span) (a : ℕ) → OpenAt stab_at j k n a → OpenAt stab_at j (k + 1) n a
  still_open p q j n a o =
      let h = o.before in
      record {
        before = omega arith;
        opens = o.opens;
        no_opening = λ m n' a' l r x. elim (cases_eq m k) [ inl e ↦ p n' a' (ap stab_at (sym e) ∙ x) | inr ne ↦ o.no_opening m n' a' l (omega arith) x ];
        no_closing = λ m z l r x. elim (cases_eq m k) [ inl e ↦ q z (ap stab_at (sym e) ∙ x) | inr ne ↦ o.no_closing m z l (omega arith) x ];
      }

  same_pending : (o : Option Function) → OpensNone → ClosesNone → PendingAt stab_at k o → PendingAt stab_at (k + 1) o
  same_pending (Some f) p q (j, o) = (j, still_open p q j f.name f.address o)
  same_pending None p q h = λ j n a o. elim (was_open j n a o) [ inl e ↦ p n a (ap stab_at (sym e) ∙ o.opens) | inr o' ↦ h j n a o' ]

  -- after a closing none is open
  none_open : (z : ℕ) → stab_at k ≡ Some (Closing z) → (j : ℕ) (n : Span) (a : ℕ) → OpenAt stab_at j (k + 1) n a → ⊥
  none_open z e j n a o =
      elim (was_open j n a o) [
        | inl f ↦ let p : stab_at k ≡ Some (Opening n a) = ap stab_at (sym f) ∙ o.opens in cc
        | inr o' ↦ let h = o'.before in o.no_closing k z h (omega arith) e
      ]

  pending_next : (c : MapCursor) (s : Option Stab) (f : ℕ) → stab_at k ≡ s → PendingAt stab_at k c.pending → PendingAt stab_at (k + 1) (left_if c s f).pending
  pending_next c (Some Source) f e h = same_pending c.pending (λ n a p. cc) (λ z p. cc) h
  pending_next c (Some (Object o)) f e h = same_pending c.pending (λ n a p. cc) (λ z p. cc) h
  pending_next c (Some (Opening n a)) f e h =
      (k, record { before = omega arith; opens = e; no_opening = λ m n' a' p q. absurd (omega arith); no_closing = λ m z p q. absurd (omega arith) })
  pending_next c (Some (Closing z)) f e h = none_open z e
  pending_next c (Some (Static n a)) f e h = same_pending c.pending (λ n' a' p. cc) (λ z p. cc) h
  pending_next c None f e h = same_pending c.pending (λ n a p. cc) (λ z p. cc) h

  -- what an addition says of symbol k
  abbrev Says : Option Addition → Type 0
  Says None = ((n : Span) → OpensFile stab_at k n → ⊥) × ((x : MapEntry) → Makes stab_at k x → ⊥)
  Says (Some (File n)) = OpensFile stab_at k n × ((x : MapEntry) → Makes stab_at k x → ⊥)
  Says (Some (Entry x)) = ((n : Span) → OpensFile stab_at k n → ⊥) × Makes stab_at k x

  -- under no file nothing makes an entry, and a closing of no function makes none
  unfiled : ((f : ℕ) → Under stab_at k f → ⊥) → (x : MapEntry) → Makes stab_at k x → ⊥
  unfiled h x (variable n a f p u) = h f u
  unfiled h x (function j n a z f o p u) = h f u

  unopened : ((n : Span) (a : ℕ) → stab_at k ≡ Some (Static n a) → ⊥) → PendingAt stab_at k None → (x : MapEntry) → Makes stab_at k x → ⊥
  unopened static none x (variable n a f p u) = static n a p
  unopened static none x (function j n a z f o p u) = none j n a o

  says_closed : (p : Option Function) (o : Option ℕ) (z : ℕ) → stab_at k ≡ Some (Closing z) → PendingAt stab_at k p → CurrentAt stab_at k o → Says (closed p o z)
  says_closed (Some f) (Some n) z e (j, w) u = (λ n' p. cc, function j f.name f.address z n w e u)
  says_closed (Some f) None z e w u = (λ n p. cc, unfiled u)
  says_closed None (Some n) z e w u = (λ n' p. cc, unopened (λ n' a p. cc) w)
  says_closed None None z e w u = (λ n p. cc, unfiled u)

  says_static : (o : Option ℕ) (n : Span) (a : ℕ) → stab_at k ≡ Some (Static n a) → CurrentAt stab_at k o → Says (static o n a)
  says_static (Some f) n a e u = (λ n' p. cc, variable n a f e u)
  says_static None n a e u = (λ n' p. cc, unfiled u)

  says : (c : MapCursor) (s : Option Stab) → stab_at k ≡ s → PendingAt stab_at k c.pending → CurrentAt stab_at k c.current → Says (told_if c s)
  says c (Some Source) e p u = (λ n q. cc, makes_none (λ z q. cc) (λ n a q. cc))
  says c (Some (Object (Some n))) e p u = (e, makes_none (λ z q. cc) (λ n' a q. cc))
  says c (Some (Object None)) e p u = (λ n q. cc, makes_none (λ z q. cc) (λ n a q. cc))
  says c (Some (Opening n a)) e p u = (λ n' q. cc, makes_none (λ z q. cc) (λ n' a' q. cc))
  says c (Some (Closing z)) e p u = says_closed c.pending c.current z e p u
  says c (Some (Static n a)) e p u = says_static c.current n a e u
  says c None e p u = (λ n q. cc, makes_none (λ z q. cc) (λ n a q. cc))

module _ (stab_at : ℕ → Option Stab) (file_for : Span → MapFile) (files_before : Contents MapFile) (entries_before : Contents MapEntry) where
  abbrev Kept : ℕ → MapCursor → Contents MapFile → Contents MapEntry → Type 0
  Kept = MapKept stab_at file_for files_before entries_before

  pub begun_kept : files_before.count ≡ 0 → entries_before.count ≡ 0 → Kept 0 begun files_before entries_before
  begun_kept f e =
      record {
        right = record { files = rw f none_made; entries = rw e none_made; files_kept = record { same_size = refl; same_rest = refl }; entries_kept = record { same_size = refl; same_rest = refl } };
        pending = λ j n a o. let h = o.before in omega arith;
        current = λ i u. let h = u.before in omega arith;
        counted = ([], none_made, sym f);
        files_fit = omega arith;
        entries_fit = omega arith;
      }

  pub kept_right : (k : ℕ) (c : MapCursor) (fs : Contents MapFile) (es : Contents MapEntry) → Kept k c fs es → MapIsRight stab_at file_for k files_before entries_before fs es
  kept_right k c fs es h = h.right

  module _ (k : ℕ) (c : MapCursor) (fs : Contents MapFile) (es : Contents MapEntry) (s : Option Stab) (h : Kept k c fs es) (is : s ≡ stab_at k) where
    said : (a : Option Addition) → told_if c s ≡ a → Says stab_at k a
    said a e = subst (Says stab_at k) e (says stab_at k c s (sym is) h.pending h.current)

    pending_on : PendingAt stab_at (k + 1) (left_if c s fs.count).pending
    pending_on = pending_next stab_at k c s fs.count (sym is) h.pending

    current_on : CurrentAt stab_at (k + 1) (left_if c s fs.count).current
    current_on = current_next stab_at k c s fs.count (sym is) h.counted h.current

    pub nothing_kept : told_if c s ≡ None → Kept (k + 1) (left_if c s fs.count) fs es
    nothing_kept e =
        let y = said None e in
        let r = h.right in
        record {
          right = record { files = same_made r.files (λ x m. y.0 m.0 m.1); entries = same_made r.entries y.1; files_kept = r.files_kept; entries_kept = r.entries_kept };
          pending = pending_on;
          current = current_on;
          counted = as_before stab_at k fs.count h.counted y.0;
          files_fit = h.files_fit;
          entries_fit = h.entries_fit;
        }

    pub file_kept : (name : Span) → told_if c s ≡ Some (File name) → has_room fs ≡ true → Kept (k + 1) (left_if c s fs.count) (pushed fs (file_for name)) es
    file_kept name e room =
        let y = said (Some (File name)) e in
        let r = h.right in
        let fits : fs.count < length fs.slots = ltb-true _ _ room in
        subst (λ l. Kept (k + 1) (left_if c s fs.count) l es) (sym (cond-true (has_room fs) (added fs (file_for name)) fs room))
        (record {
          right = record {
            files = rw (take_more_set fs.slots fs.count (file_for name) fits) (more_made r.files (name, y.0, refl));
            entries = same_made r.entries y.1;
            files_kept = rest-added files_before fs (file_for name) r.files_kept;
            entries_kept = r.entries_kept;
          };
          pending = pending_on;
          current = current_on;
          counted = one_more stab_at k fs.count name h.counted y.0;
          files_fit = simp length-set (omega arith);
          entries_fit = h.entries_fit;
        })

    pub entry_kept : (x : MapEntry) → told_if c s ≡ Some (Entry x) → has_room es ≡ true → Kept (k + 1) (left_if c s fs.count) fs (pushed es x)
    entry_kept x e room =
        let y = said (Some (Entry x)) e in
        let r = h.right in
        let fits : es.count < length es.slots = ltb-true _ _ room in
        subst (Kept (k + 1) (left_if c s fs.count) fs) (sym (cond-true (has_room es) (added es x) es room))
        (record {
          right = record {
            files = same_made r.files (λ f m. y.0 m.0 m.1);
            entries = rw (take_more_set es.slots es.count x fits) (more_made r.entries y.1);
            files_kept = r.files_kept;
            entries_kept = rest-added entries_before es x r.entries_kept;
          };
          pending = pending_on;
          current = current_on;
          counted = as_before stab_at k fs.count h.counted y.0;
          files_fit = h.files_fit;
          entries_fit = simp length-set (omega arith);
        })
