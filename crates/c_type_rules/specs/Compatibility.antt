-- The words of `compatibility` for what c_typing says of rows:
-- how types are compared.
use Rattle.std.specs.Prelude.{Bool, true, false, ◌&&◌, List, [], ◌∷◌}
use Rattle.c_tree.specs.declared.typed.types.CType.{CType}
use Rattle.c_typing.specs.Types as types
use Rattle.c_type_rules.specs.declared.compatibility.Comparison.{Comparison}
use Rattle.c_type_rules.specs.declared.compatibility.Comparison.TheVariants as comparison

abbrev pub compared : Comparison → types.Comparison
compared comparison.Compatible = types.by_compatibility
compared comparison.Identical = types.by_identity

-- the types of parameters against those of others (C11 6.7.6.3p15), over lists
abbrev pub all_agree : types.Comparison → List CType → List CType → Bool
all_agree by [] [] = true
all_agree by (t ∷ ts) (u ∷ us) = types.agree by t u && all_agree by ts us
all_agree by _ _ = false
