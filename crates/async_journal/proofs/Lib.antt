mod ByPlace
mod Building
mod Refusing
mod BookAdds
mod Tables
mod RunEdges
mod RunEvents
mod RunLegal
