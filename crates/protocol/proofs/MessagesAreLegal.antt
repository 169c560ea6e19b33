-- Every message that a run has sent is legal in its cluster.
use Rattle.protocol.specs.Runs.{MessagesAreLegal}
use Rattle.protocol.proofs.Soundness.{in_the_log, reached_sound}

pub messages_are_legal : (V : Type 0) → MessagesAreLegal V
messages_are_legal V setup values world reached e m h =
    let sound = reached_sound setup values world reached in
    sound.messages m (in_the_log setup sound e m h)
