-- The three changes of a record.
use Rattle.protocol.specs.declared.change.Change.{Change}
use Rattle.protocol.specs.declared.change.Change.TheVariants.{Term, Accept, Mark}
use Rattle.protocol.specs.declared.record.Record.{Record}

-- the record after a change: the current term alone is replaced, or the five other numbers are, or the committed
-- configuration becomes the accepted one
abbrev pub changed : {V : Type 0} → Change V → Record V → Record V
changed (Term term) old = record {
  current_term = term;
  last_accepted_term = old.last_accepted_term;
  last_accepted_version = old.last_accepted_version;
  last_accepted_value = old.last_accepted_value;
  last_accepted_configuration = old.last_accepted_configuration;
  last_committed_configuration = old.last_committed_configuration;
}
changed (Accept accepted) old = record {
  current_term = old.current_term;
  last_accepted_term = accepted.term;
  last_accepted_version = accepted.version;
  last_accepted_value = accepted.value;
  last_accepted_configuration = accepted.configuration;
  last_committed_configuration = accepted.committed_configuration;
}
changed Mark old = record {
  current_term = old.current_term;
  last_accepted_term = old.last_accepted_term;
  last_accepted_version = old.last_accepted_version;
  last_accepted_value = old.last_accepted_value;
  last_accepted_configuration = old.last_accepted_configuration;
  last_committed_configuration = old.last_accepted_configuration;
}
