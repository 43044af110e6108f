-- Which request each reply of an output answers (docs/service.md, "Answers").
use Rattle.std.specs.Prelude.{◌≡◌, ◌⊎◌, ℕ, not, Bool, true, List, [], ◌∷◌}
use Rattle.fidl_table_format.specs.Method.{is_strict}
use Rattle.fidl_verify.specs.Lookups.{response_of, TableProtocol}
use Rattle.fidl_requests.specs.declared.verdict.Verdict.TheVariants.{Silence, End}
use Rattle.fidl_requests.specs.declared.ended.Ended.{Ended}
use Rattle.fidl_requests.specs.Methods.{IsUnrequested}
use Rattle.fidl_requests.specs.Verdict.{IsVerdict, frame_head}
use Rattle.fidl_script.specs.Script.{Body, IsReplyOf, IsTwoWay, method_of}
use Rattle.fidl_serve.specs.Replying.{frame_of, unknown_method_body}

-- a reply of the protocol's two-way method of this ordinal: its flexible bit is the method's, and
-- its body encodes a value of the response's payload, or is empty where there is none
pub record IsMethodReply (p : TableProtocol) (ordinal : ℕ) (flexible : Bool) (body : Body) : Type 0
  where
    pub place : ℕ
    pub two_way : IsTwoWay p place
    pub ordinal_is : (method_of p place).ordinal ≡ ordinal
    pub flexible_is : flexible ≡ not (is_strict (method_of p place))
    pub carried : IsReplyOf p.table (response_of (method_of p place)) body

-- a reply to an ordinal of which the protocol has no method with a request: a flexible one, whose
-- body is the union of ordinal 3 with the int32 -2
pub record IsUnknownReply (p : TableProtocol) (ordinal : ℕ) (flexible : Bool) (body : Body) : Type 0
  where
    pub unknown : IsUnrequested p ordinal
    pub flexible_is : flexible ≡ true
    pub is : body ≡ unknown_method_body

-- a reply to the request in a frame: it has the request's transaction id and ordinal
pub record IsReplyTo (p : TableProtocol) (frame reply : List ℕ) : Type 0 where
  pub flexible : Bool
  pub body : Body
  pub is : reply ≡ frame_of (record {
    txid = (frame_head frame).txid;
    flexible = flexible;
    ordinal = (frame_head frame).ordinal;
  }) body
  pub fits : IsMethodReply p (frame_head frame).ordinal flexible body
      ⊎ IsUnknownReply p (frame_head frame).ordinal flexible body

-- the replies answer the frames in their order, up to an end; a frame without a reply asks for none
pub data AreReplies (p : TableProtocol) : (frames replies : List (List ℕ)) → Type 0 where
  done : AreReplies p [] []
  ended : (frame : List ℕ) (frames : List (List ℕ)) (e : Ended) → IsVerdict p frame (End e)
      → AreReplies p (frame ∷ frames) []
  silent : (frame : List ℕ) (frames replies : List (List ℕ)) → IsVerdict p frame Silence
      → AreReplies p frames replies → AreReplies p (frame ∷ frames) replies
  replied : (frame reply : List ℕ) (frames replies : List (List ℕ)) → IsReplyTo p frame reply
      → AreReplies p frames replies → AreReplies p (frame ∷ frames) (reply ∷ replies)
