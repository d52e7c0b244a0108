-- The facts that a function shows where it returns, for other arguments that are the same.
use Prim.Native.Nat.{ℕ}
use mathlib.Core.List.{List}
use mathlib.Core.Path.{◌≡◌, subst, sym}
use mir.Syntax.{Ty}
use contract.Lifetimes.{Lfts}
use denote.Triple.Clauses.{at_exit}
use borrow.Table.Row.{St}
use borrow.Fn.Kind.{ParamKind, ResultKind}
use borrow.Fn.Kinds.{Dens, Out, ended_of, res_t}
use borrow.Fn.Frame.{rows_from}
use borrow.Fn.Enter.{lasts_p, rows_ret_p}

module _ {n : ℕ} (ps : List (ParamKind n)) (r : ResultKind n) (xs : List Ty) (κs : Lfts n) (Q : Out n ps r) where
  -- the goal at the return: the arguments, the result, and what the function leaves
  abbrev pub AtReturn : Dens κs ps → (res_t r κs).Denot → St (rows_from 1 (rows_ret_p κs ps xs)) → Type 0
  AtReturn args result left =
      Q κs args result (at_exit (ended_of n ps r) κs args (lasts_p κs 1 ps xs args left))

  pub at_args : (args others : Dens κs ps) (result : (res_t r κs).Denot)
      (left : St (rows_from 1 (rows_ret_p κs ps xs))) → args ≡ others → AtReturn others result left
      → AtReturn args result left
  at_args args others result left same =
      subst (λ (a : Dens κs ps). AtReturn a result left) (sym same)
