-- What specifiers are made of, as the definition of typing has it.
-- The clauses of `specifiers` and of c_type_trees cite it.
use Rattle.c_typing.specs.Declarators.{Parts}
use Rattle.c_type_declarators.specs.declared.specifiers.SpecifierParts.{SpecifierParts}

abbrev pub parts_of : SpecifierParts → Parts
parts_of p = record { words = p.words; storages = p.storages; constant = p.constant; types = p.types }
