-- What one run leaves. Assumes nothing.
use Rattle.std.specs.Prelude.{◌≡◌, ℕ, Bool, List as Row, Ok, Err, Result}
use Rattle.source.specs.declared.refusal.Refusal.{Refusal}
use Rattle.list.specs.Contents.{Contents}
use Rattle.reader.specs.Walks.{opened}
use Rattle.replay.specs.declared.calls.Answer.{Answer}
use Rattle.replay.specs.declared.calls.Call.{Call}
use Rattle.replay.specs.declared.calls.Stage.{Stage}
use Rattle.replay.specs.Law.{RunIs, lists_after, answers_after}
use Rattle.replay.specs.Runs.{Lists, push_all}
use Rattle.replay.specs.Stages.{source_of, run_at}

module _ {S W : Type 0} (wide : Bool) (xs : Row ℕ) (source : S) (calls : Row Call) (before after : Lists) (told_before told_after : Contents Answer) where
  -- the calls have come to a stage, on the source that was given; or the library does not open, and the source is
  -- handed back
  abbrev pub ComesTo : Result (Stage S W) (Refusal × S) → Type 0
  ComesTo (Ok t) = (source_of t ≡ source) × RunIs wide xs calls before (run_at t after)
  ComesTo (Err e) = (e.1 ≡ source) × (Err e.0 ≡ opened wide xs)

  -- a library of bytes xs was opened and the calls were made: what that has come to, what the lists hold, and what was
  -- answered
  pub record RunOf (r : Result (Stage S W) (Refusal × S)) : Type 0 where
    pub stage : ComesTo r
    pub lists : after ≡ lists_after wide xs calls before
    pub told : told_after ≡ push_all (answers_after wide xs calls before) told_before
