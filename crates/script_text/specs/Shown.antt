-- The words that the parts of a call's line are printed as.
use Rattle.std.specs.Prelude.{List, [], ◌∷◌, ◌++◌}
use Rattle.script_text.specs.declared.call_printer.Field.{Field}
use Rattle.script_text.specs.declared.call_printer.Field.TheVariants as field
use Rattle.script_text.specs.declared.call_printer.End.{End}
use Rattle.script_text.specs.declared.call_printer.End.TheVariants as end
use Rattle.text_words.specs.Spelling.{Part, word, number, name, constant, kind_text, dir_text, scope_part, many_parts, label_parts, test_parts}

abbrev pub field_parts : Field → List Part
field_parts field.Nothing = []
field_parts (field.Id n) = number n ∷ []
field_parts (field.Name bytes) = name bytes.now ∷ []
field_parts (field.Value v) = constant v.now ∷ []
field_parts (field.Kind k) = word (kind_text k) ∷ []
field_parts (field.Dir d) = word (dir_text d) ∷ []
field_parts (field.Scope label) = scope_part label.now ∷ []

abbrev pub end_parts : End → List Part
end_parts end.Here = []
end_parts (end.Many many) = many_parts many
end_parts (end.Label label) = label_parts label.now
end_parts (end.Test test) = test_parts test.now

-- fields, and the parts behind them
abbrev pub fields_before : List Field → List Part → List Part
fields_before [] rest = rest
fields_before (f ∷ fields) rest = field_parts f ++ fields_before fields rest
