-- The nine numbers of a body, and their places: source 1 byte, destination 1, term 4, version 4, base term 4,
-- base version 4, value 4, configuration 2, committed configuration 2.
use Rattle.std.specs.Prelude.{ℕ, List, ◌∷◌, ◌++◌, slice_index}
use Rattle.message_log.specs.declared.fields.Fields.{Fields}
use Rattle.message_log.specs.Layout.{two, four, in_two, in_four}

-- the numbers that a body holds
abbrev pub fields_in : List ℕ → Fields
fields_in body = record {
  source = slice_index body 0;
  destination = slice_index body 1;
  term = four body 2;
  version = four body 6;
  base_term = four body 10;
  base_version = four body 14;
  value = four body 18;
  configuration = record { bits = two body 22 };
  committed_configuration = record { bits = two body 24 };
}

-- the body that holds these numbers
abbrev pub body_with : Fields → List ℕ
body_with f =
    f.source ∷ f.destination
    ∷ (in_four f.term ++ (in_four f.version ++ (in_four f.base_term ++ (in_four f.base_version
    ++ (in_four f.value ++ (in_two f.configuration.bits ++ in_two f.committed_configuration.bits))))))
