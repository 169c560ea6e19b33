-- Nobody can split the history: in every state that steps lead to from a fresh start, the log has one history.
use Rattle.protocol.specs.History.{OneHistory}
use Rattle.protocol.specs.Runs.{NoRunSplitsTheHistory}
use Rattle.protocol.proofs.Unsplit.{unsplit}
use Rattle.protocol.proofs.Setting.{Setting}
use Rattle.protocol.proofs.Steps.{State, Reached}
use Rattle.protocol.proofs.Steps.Reached.{start, next}
use Rattle.protocol.proofs.Invariant.{Invariant}
use Rattle.protocol.proofs.Preservation.{step_keeps_invariant}
use Rattle.protocol.proofs.Start.{fresh_start_has_invariant}
use Rattle.protocol.proofs.OneHistory.{one_history}

-- every state that is reached has the invariant
pub reached_has_invariant : {V : Type 0} (S : Setting) (value : V) {s : State V} → Reached S value s → Invariant S s
reached_has_invariant S value (start f) = fresh_start_has_invariant S f
reached_has_invariant S value (next before step) = step_keeps_invariant S value (reached_has_invariant S value before) step

-- a state with the invariant has one history
pub invariant_gives_one_history : {V : Type 0} (S : Setting) {s : State V} → Invariant S s → OneHistory s.log
invariant_gives_one_history S {s} I = one_history S s.log I.of_log

-- safety
pub one_history_is_kept : {V : Type 0} (S : Setting) (value : V) (s : State V) → Reached S value s → OneHistory s.log
one_history_is_kept S value s reached = invariant_gives_one_history S (reached_has_invariant S value reached)

-- so no run splits the history
pub no_run_splits_the_history : (V : Type 0) → NoRunSplitsTheHistory V
no_run_splits_the_history V = unsplit V one_history_is_kept
