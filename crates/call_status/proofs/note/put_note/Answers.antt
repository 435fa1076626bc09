use Rattle.call_status.proofs.Deliveries.{noted_line}
use Rattle.call_status.proofs.note.put_note.Goals as goal

pub returns-in-BadWords : goal.returns-in-BadWords
returns-in-BadWords g c = noted_line _ _ _ _ _ _ _ c.in-BadWords.is (λ same. absurd (cc)) c.put_line.ensures.takes c.put_line.ensures.nothing_held

pub returns-in-BadGraph : goal.returns-in-BadGraph
returns-in-BadGraph g c = noted_line _ _ _ _ _ _ _ c.in-BadGraph.is (λ same. absurd (cc)) (c.put_made.ensures.takes _ c.bad_graph.ensures) c.put_made.ensures.nothing_held

pub returns-in-NoSource : goal.returns-in-NoSource
returns-in-NoSource g c = noted_line _ _ _ _ _ _ _ c.in-NoSource.is (λ same. absurd (cc)) (c.put_made-in-NoSource.ensures.takes _ c.no_source.ensures) c.put_made-in-NoSource.ensures.nothing_held

pub returns-in-NoText : goal.returns-in-NoText
returns-in-NoText g c = noted_line _ _ _ _ _ _ _ c.in-NoText.is (λ same. absurd (cc)) (c.put_made-in-NoText.ensures.takes _ c.of_name.ensures) c.put_made-in-NoText.ensures.nothing_held

pub returns-in-LongText : goal.returns-in-LongText
returns-in-LongText g c = noted_line _ _ _ _ _ _ _ c.in-LongText.is (λ same. absurd (cc)) (c.put_made-in-LongText.ensures.takes _ c.of_name-in-LongText.ensures) c.put_made-in-LongText.ensures.nothing_held

pub returns-in-ReadFault : goal.returns-in-ReadFault
returns-in-ReadFault g c = noted_line _ _ _ _ _ _ _ c.in-ReadFault.is (λ same. absurd (cc)) (c.put_made-in-ReadFault.ensures.takes _ c.of_name-in-ReadFault.ensures) c.put_made-in-ReadFault.ensures.nothing_held

pub returns-in-WriteFault : goal.returns-in-WriteFault
returns-in-WriteFault g c = noted_line _ _ _ _ _ _ _ c.in-WriteFault.is (λ same. absurd (cc)) c.put_line-in-WriteFault.ensures.takes c.put_line-in-WriteFault.ensures.nothing_held

pub returns-in-Limit : goal.returns-in-Limit
returns-in-Limit g c = noted_line _ _ _ _ _ _ _ c.in-Limit.is (λ same. absurd (cc)) (c.put_made-in-Limit.ensures.takes _ c.limit_note.ensures) c.put_made-in-Limit.ensures.nothing_held

pub returns-in-TaskFault : goal.returns-in-TaskFault
returns-in-TaskFault g c = noted_line _ _ _ _ _ _ _ c.in-TaskFault.is (λ same. absurd (cc)) (c.put_made-in-TaskFault.ensures.takes _ c.fault_note.ensures) c.put_made-in-TaskFault.ensures.nothing_held

pub returns-in-Stuck : goal.returns-in-Stuck
returns-in-Stuck g c = noted_line _ _ _ _ _ _ _ c.in-Stuck.is (λ same. absurd (cc)) (c.put_made-in-Stuck.ensures.takes _ c.stuck_note.ensures) c.put_made-in-Stuck.ensures.nothing_held

pub returns-in-NotLegal : goal.returns-in-NotLegal
returns-in-NotLegal g c = noted_line _ _ _ _ _ _ _ c.in-NotLegal.is (λ same. absurd (cc)) (c.put_made-in-NotLegal.ensures.takes _ c.numbered.ensures) c.put_made-in-NotLegal.ensures.nothing_held

pub returns-in-BadJournal : goal.returns-in-BadJournal
returns-in-BadJournal g c = noted_line _ _ _ _ _ _ _ c.in-BadJournal.is (λ same. absurd (cc)) (c.put_made-in-BadJournal.ensures.takes _ c.numbered-in-BadJournal.ensures) c.put_made-in-BadJournal.ensures.nothing_held

pub returns-in-NoMemory : goal.returns-in-NoMemory
returns-in-NoMemory g c = noted_line _ _ _ _ _ _ _ c.in-NoMemory.is (λ same. absurd (cc)) c.put_line-in-NoMemory.ensures.takes c.put_line-in-NoMemory.ensures.nothing_held
