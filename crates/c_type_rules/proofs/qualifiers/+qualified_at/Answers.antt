-- Where the qualifier of a pointer stands,
-- and that of an array, which is its element's.
use Rattle.c_type_rules.proofs.Qualified.{qualified-pointer, qualified-array}
use Rattle.c_type_rules.proofs.qualifiers.+qualified_at.Goals as goal

pub returns-in-Some-Pointer-default-clause-is : goal.returns-in-Some-Pointer-default-clause-is
returns-in-Some-Pointer-default-clause-is t c =
    let here = c.in-Some-Pointer-default in
    qualified-pointer c.args.derived.now here.inner.now here.field-0-0.now here.field-0-0-0 here.ensures.cases.0 here.field-0-0-is

pub returns-in-Some-Array-default-clause-is : goal.returns-in-Some-Array-default-clause-is
returns-in-Some-Array-default-clause-is t c =
    let here = c.in-Some-Array-default in
    qualified-array c.args.derived.now here.inner.now here.field-0-0.now here.field-0-0-0 c.qualified_at.result here.ensures.cases.0 here.field-0-0-is c.qualified_at.ensures.within c.qualified_at.ensures.is
