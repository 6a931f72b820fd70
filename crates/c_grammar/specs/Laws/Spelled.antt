-- The spelling of string literals, of the words behind a `*`, and of pointers.
use Rattle.std.specs.Prelude.{List, map}
use Rattle.c_tree.specs.declared.token.Pos.{Pos}
use Rattle.c_tree.specs.declared.token.Token.{Token}
use Rattle.c_tree.specs.declared.token.TokenKind.TheVariants as k
use Rattle.c_tree.specs.declared.expression.Literal.{Literal}
use Rattle.c_tree.specs.declared.declarator.Pointer.{Pointer}
use Rattle.c_tree.specs.Spelling.Tokens.{token, joined, literal_spelling, const_spelling, pointer_spelling}
use Rattle.c_grammar.specs.Input.{Tokens}

abbrev pub literal : Literal → Token
literal l = token (k.Bytes l.bytes) l.place

abbrev pub literals : List Literal → Tokens
literals all = joined (map literal_spelling all)

abbrev pub consts : List Pos → Tokens
consts all = joined (map const_spelling all)

abbrev pub pointers : List Pointer → Tokens
pointers all = joined (map pointer_spelling all)
