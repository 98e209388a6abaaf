-- Expressions and formulas as trees. Assumes nothing.
use Rattle.std.specs.Prelude.{ℕ, ◌+◌, max}
use Rattle.problem.specs.declared.node.Constant.{Constant}
use Rattle.problem.specs.declared.node.Turn.{Turn}
use Rattle.problem.specs.declared.node.Operator.{Operator}
use Rattle.problem.specs.declared.node.Test.{Test}
use Rattle.problem.specs.declared.node.Comparison.{Comparison}
use Rattle.problem.specs.declared.node.Prefix.{Prefix}
use Rattle.problem.specs.declared.node.Infix.{Infix}
use Rattle.problem.specs.declared.node.Quantifier.{Quantifier}
use Rattle.problem.specs.Sorts.{constant_arity, outcome, prefix_past, infix_past}

-- a relation by its first place and its arity, a variable by its number
pub data Expr : Type 0 where
  relation : ℕ → ℕ → Expr
  variable : ℕ → Expr
  constant : Constant → Expr
  turned : Turn → Expr → Expr
  next : Expr → Expr
  combined : Operator → Expr → Expr → Expr

-- how many atoms its tuples have
abbrev pub arity : Expr → ℕ
arity (relation b k) = k
arity (variable x) = 1
arity (constant c) = constant_arity c
arity (turned s a) = 2
arity (next a) = arity a
arity (combined o a b) = outcome o (arity a) (arity b)

pub data Formula : Type 0 where
  tested : Test → Expr → Formula
  compared : Comparison → Expr → Expr → Formula
  prefixed : Prefix → Formula → Formula
  joined : Infix → Formula → Formula → Formula
  quantified : Quantifier → ℕ → Expr → Formula → Formula

-- how deep operators of the past are nested in it
abbrev pub depth : Formula → ℕ
depth (tested q a) = 0
depth (compared c a b) = 0
depth (prefixed x f) = depth f + prefix_past x
depth (joined w f g) = max (depth f) (depth g) + infix_past w
depth (quantified q x a f) = depth f
