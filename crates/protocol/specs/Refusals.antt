-- The number of each refusal. From the input: 1 to 11. From the state: 20 to 38.
use Rattle.std.specs.Prelude.{ℕ}
use Rattle.protocol.specs.declared.refusal.Refusal.{Refusal}
use Rattle.protocol.specs.declared.refusal.Refusal.TheVariants.{
  UnknownNode,
  IllFormedLog,
  NoSuchEntry,
  UnknownKind,
  InvalidBody,
  OtherDestination,
  IllegalConfiguration,
  UnsoundStore,
  TooManyStores,
  IllegalInitialConfiguration,
  StoreNotFresh,
  ClusterShut,
  AlreadyBootstrapped,
  TermNotHigher,
  OtherTerm,
  JoinNotStarted,
  JoinerAhead,
  NotBootstrapped,
  ElectionNotWon,
  PublicationUnderWay,
  VersionNotHigher,
  ReconfigurationUnderWay,
  NoJoinQuorum,
  AlreadyAccepted,
  OtherVersion,
  OtherAcceptedTerm,
  OtherAcceptedVersion,
  NewerPublished,
  LogFull,
  WriteUnfinished,
}

abbrev pub refusal_number : Refusal → ℕ
refusal_number UnknownNode = 1
refusal_number IllFormedLog = 2
refusal_number NoSuchEntry = 3
refusal_number UnknownKind = 4
refusal_number InvalidBody = 5
refusal_number OtherDestination = 6
refusal_number IllegalConfiguration = 7
refusal_number UnsoundStore = 8
refusal_number TooManyStores = 9
refusal_number IllegalInitialConfiguration = 10
refusal_number StoreNotFresh = 11
refusal_number ClusterShut = 20
refusal_number AlreadyBootstrapped = 21
refusal_number TermNotHigher = 22
refusal_number OtherTerm = 23
refusal_number JoinNotStarted = 24
refusal_number JoinerAhead = 25
refusal_number NotBootstrapped = 26
refusal_number ElectionNotWon = 27
refusal_number PublicationUnderWay = 28
refusal_number VersionNotHigher = 29
refusal_number ReconfigurationUnderWay = 30
refusal_number NoJoinQuorum = 31
refusal_number AlreadyAccepted = 32
refusal_number OtherVersion = 33
refusal_number OtherAcceptedTerm = 34
refusal_number OtherAcceptedVersion = 35
refusal_number NewerPublished = 36
refusal_number LogFull = 37
refusal_number WriteUnfinished = 38
