-- Rows of one chunk, which a plan replaces.
use Rattle.std.specs.Prelude.{List, [], ◌∷◌, Option, Some, None}
use Rattle.held_value.specs.declared.local_name.LocalName.{LocalName}
use Rattle.held_value.specs.declared.content.HeldContent.{HeldContent}
use Rattle.journal_tests.specs.Shapes.{new_piece, object_of}

-- one object of the one chunk that a plan brings
abbrev pub new_content : HeldContent
new_content = object_of 64 (new_piece 0 ∷ [])

-- the name, if there is one
abbrev pub listed : Option LocalName → List LocalName
listed None = []
listed (Some name) = name ∷ []
